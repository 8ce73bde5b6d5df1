use Rattle.std.proofs.Common.{◌≡◌, ◌+◌, ◌≤◌, length, drop}
use Rattle.cg_model_faults.specs.E313.{slot_operands}
use Rattle.cg_desc_check_format.proofs.numbers.slot_count.Given as goal

-- the slots so far, with those that are left, are all
abbrev pub invariant-loop-part : goal.invariant-loop-part
invariant-loop-part l = (l.count + length (slot_operands (drop l.part-index l.parts)) ≡ length (slot_operands l.parts)) × (l.count ≤ l.part-index)
