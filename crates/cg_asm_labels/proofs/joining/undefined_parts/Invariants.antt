use Rattle.std.proofs.Common.{◌≡◌, drop}
use Rattle.cg_asm_labels.proofs.joining.undefined_parts.Given as goal
use Rattle.cg_asm_labels.specs.Joining.{undefined_parts}

-- what is left has the first of the whole
abbrev pub invariant-loop-part : goal.invariant-loop-part
invariant-loop-part l = undefined_parts l.labels (drop l.part-index l.parts) ≡ undefined_parts l.labels l.parts
