use Rattle.std.proofs.Common.{◌≡◌, take, drop}
use Rattle.cg_base.specs.Refusing.{first}
use Rattle.cg_model_faults.specs.E313.{unmatched_from, unmatched}
use Rattle.cg_desc_check_format.proofs.slots.first_unmatched.Given as goal

-- what is left has the first fault of the whole
abbrev pub invariant-loop-place : goal.invariant-loop-place
invariant-loop-place l = first (unmatched_from l.pieces l.place (take l.place l.operands) (drop l.place l.operands)) ≡ first (unmatched l.pieces l.operands)
