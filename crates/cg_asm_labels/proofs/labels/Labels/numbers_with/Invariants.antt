use Rattle.std.proofs.Common.{◌≡◌, ◌++◌, drop}
use Rattle.cg_asm_labels.proofs.labels.Labels.numbers_with.Given as goal
use Rattle.cg_model_source.specs.E605.{numbers_with}

-- with those of the sums that are left they are all
abbrev pub invariant-loop-k : goal.invariant-loop-k
invariant-loop-k l = l.numbers.items ++ numbers_with l.self (drop l.k l.sums) ≡ numbers_with l.self l.sums
