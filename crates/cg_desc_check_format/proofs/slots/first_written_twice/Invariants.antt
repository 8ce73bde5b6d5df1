use Rattle.std.proofs.Common.{◌≡◌, take, drop}
use Rattle.cg_base.specs.Refusing.{first}
use Rattle.cg_model_faults.specs.E313.{twice_from, written_twice}
use Rattle.cg_desc_check_format.proofs.slots.first_written_twice.Given as goal

-- what is left has the first fault of the whole
abbrev pub invariant-loop-place : goal.invariant-loop-place
invariant-loop-place l = first (twice_from l.operands l.place (take l.place l.pieces) (drop l.place l.pieces)) ≡ first (written_twice l.operands l.pieces)
