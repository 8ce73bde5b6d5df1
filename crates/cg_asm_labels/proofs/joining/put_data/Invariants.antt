use Rattle.std.specs.Option.{option_or}
use Rattle.std.proofs.Common.{◌≡◌, ◌++◌, drop}
use Rattle.cg_asm_labels.proofs.joining.put_data.Given as goal
use Rattle.cg_asm_labels.specs.Joining.{first_unfit_with, data_bytes}

-- with what is left it is what the whole gives
abbrev pub invariant-loop-sum : goal.invariant-loop-sum
invariant-loop-sum l =
    (option_or l.first (first_unfit_with l.labels l.width (drop l.sum-index l.sums)) ≡ first_unfit_with l.labels l.width l.sums)
    × (l.out.items ++ data_bytes l.machine l.labels l.width (drop l.sum-index l.sums) ≡ l.initial.out.items ++ data_bytes l.machine l.labels l.width l.sums)
