use Rattle.std.proofs.Common.{◌≡◌, drop}
use Rattle.cg_base.specs.Refusing.{first}
use Rattle.cg_model_faults.specs.E313.{unused_from, unused}
use Rattle.cg_desc_check_format.proofs.slots.first_unused.Given as goal

-- what is left has the first fault of the whole
abbrev pub invariant-loop-place : goal.invariant-loop-place
invariant-loop-place l = first (unused_from l.given l.place (drop l.place l.operands)) ≡ first (unused l.given l.operands)
