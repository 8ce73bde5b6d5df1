use Rattle.std.proofs.Common.{◌≡◌, ◌++◌, drop}
use Rattle.cg_model_faults.specs.E313.{slot_operands}
use Rattle.cg_desc_check_element.proofs.elements.slots_of.Given as goal

-- the slots so far, with those that are left, are all
abbrev pub invariant-loop-part : goal.invariant-loop-part
invariant-loop-part l = l.slots.items ++ slot_operands (drop l.part-index l.parts) ≡ slot_operands l.parts
