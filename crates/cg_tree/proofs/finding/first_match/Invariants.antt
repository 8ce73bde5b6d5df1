use Rattle.std.proofs.Common.{drop}
use Rattle.cg_tree.proofs.Trying.{Trying}
use Rattle.cg_tree.proofs.finding.first_match.Given as goal

abbrev pub invariant-loop-k : goal.invariant-loop-k
invariant-loop-k l = Trying l.machine l.bytes l.candidates (drop l.k-index l.candidates) l.initial.steps.count l.steps.count
