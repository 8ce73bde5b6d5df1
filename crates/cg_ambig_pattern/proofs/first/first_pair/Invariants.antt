use Rattle.cg_ambig_pattern.specs.First.{NoPairBefore}
use Rattle.cg_ambig_pattern.proofs.first.first_pair.Given as goal

abbrev pub invariant-loop-first : goal.invariant-loop-first
invariant-loop-first g l = NoPairBefore l.patterns (g.J.Judge.asserted l.judge) l.first
