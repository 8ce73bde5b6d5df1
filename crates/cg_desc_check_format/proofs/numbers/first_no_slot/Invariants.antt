use Rattle.std.proofs.Common.{◌≡◌, drop}
use Rattle.cg_base.specs.Refusing.{first}
use Rattle.cg_model_faults.specs.E306.{no_slots}
use Rattle.cg_desc_check_format.proofs.numbers.first_no_slot.Given as goal

-- what is left has the first fault of the whole
abbrev pub invariant-loop-place : goal.invariant-loop-place
invariant-loop-place l = first (no_slots l.slots l.place (drop l.place l.pieces)) ≡ first (no_slots l.slots 0 l.pieces)
