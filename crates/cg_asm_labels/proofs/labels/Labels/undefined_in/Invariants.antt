use Rattle.std.proofs.Common.{◌≡◌, drop}
use Rattle.cg_asm_labels.proofs.labels.Labels.undefined_in.Given as goal
use Rattle.cg_asm_directives.specs.Faulting.{told_first}
use Rattle.cg_model_source.specs.E604.{undefined_sums}

-- what is left has the first of the whole
abbrev pub invariant-loop-k : goal.invariant-loop-k
invariant-loop-k l = told_first (undefined_sums l.self (drop l.k l.sums)) ≡ told_first (undefined_sums l.self l.sums)
