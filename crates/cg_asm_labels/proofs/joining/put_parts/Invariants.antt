use Rattle.std.specs.Option.{option_or}
use Rattle.std.proofs.Common.{◌≡◌, ◌++◌, drop}
use Rattle.cg_asm_labels.proofs.joining.put_parts.Given as goal
use Rattle.cg_asm_labels.specs.Joining.{unfit_parts, parts_bytes}

-- with what is left it is what the whole gives
abbrev pub invariant-loop-k : goal.invariant-loop-k
invariant-loop-k l =
    (option_or l.first (unfit_parts l.machine l.labels (drop l.k l.parts)) ≡ unfit_parts l.machine l.labels l.parts)
    × (l.out.items ++ parts_bytes l.machine l.labels (drop l.k l.parts) ≡ l.initial.out.items ++ parts_bytes l.machine l.labels l.parts)
