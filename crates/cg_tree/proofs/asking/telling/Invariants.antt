use Rattle.std.proofs.Common.{drop}
use Rattle.cg_tree.proofs.Masks.{Masked}
use Rattle.cg_tree.proofs.asking.telling.Given as goal

abbrev pub invariant-loop-k : goal.invariant-loop-k
invariant-loop-k l = Masked l.table l.candidates (drop l.k-index l.candidates) l.zeros l.ones
