use Rattle.std.proofs.Common.{◌≡◌, drop}
use Rattle.cg_asm.proofs.faults.first_unfit.Given as goal
use Rattle.cg_asm.specs.Faulting.{first_unfit}

-- what is left has the first of the whole
abbrev pub invariant-loop-sum : goal.invariant-loop-sum
invariant-loop-sum l = first_unfit l.width (drop l.sum-index l.sums) ≡ first_unfit l.width l.sums
