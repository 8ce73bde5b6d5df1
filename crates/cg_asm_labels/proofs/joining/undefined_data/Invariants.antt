use Rattle.std.proofs.Common.{◌≡◌, drop}
use Rattle.cg_asm_labels.proofs.joining.undefined_data.Given as goal
use Rattle.cg_asm_directives.specs.Faulting.{told_first}
use Rattle.cg_model_source.specs.E604.{undefined_sums}

-- what is left has the first of the whole
abbrev pub invariant-loop-sum : goal.invariant-loop-sum
invariant-loop-sum l = told_first (undefined_sums l.labels (drop l.sum-index l.sums)) ≡ told_first (undefined_sums l.labels l.sums)
