use Rattle.std.proofs.Common.{◌≡◌, drop}
use Rattle.cg_syntax.proofs.bundle.first_label.Given as goal
use Rattle.cg_syntax.specs.Telling.{first_label}

-- what is left has the first of the whole
abbrev pub invariant-loop-part : goal.invariant-loop-part
invariant-loop-part l = first_label (drop l.part-index l.parts) ≡ first_label l.parts
