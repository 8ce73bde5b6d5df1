use Rattle.cg_tree.specs.Telling.{IsOne}
use Rattle.cg_tree.proofs.asking.best_of.Given as goal

abbrev pub invariant-loop-bit : goal.invariant-loop-bit
invariant-loop-bit l = IsOne l.told l.best
