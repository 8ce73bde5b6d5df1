use Rattle.std.proofs.Common.{◌≡◌, drop}
use Rattle.cg_model_faults.specs.Finding.{stands_in}
use Rattle.cg_model_faults.specs.E313.{slot_operands}
use Rattle.cg_desc_check_rtl.proofs.names.has_slot.Given as goal

-- it stands in what is left as in the whole
abbrev pub invariant-loop-part : goal.invariant-loop-part
invariant-loop-part l = stands_in (slot_operands (drop l.part-index l.parts)) l.k ≡ stands_in (slot_operands l.parts) l.k
