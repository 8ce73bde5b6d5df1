use Rattle.std.proofs.Common.{◌≡◌, ◌++◌, drop, []}
use Rattle.cg_desc_fault_format.specs.E313.{parts_behind}
use Rattle.cg_desc_fault_format.proofs.slots.put_parts.Given as goal

-- what stands, with what is left, is the whole
abbrev pub invariant-loop-part : goal.invariant-loop-part
invariant-loop-part l =
    l.list ++ parts_behind l.own l.written l.before (drop l.part-index l.parts) ≡ l.initial.list ++ parts_behind l.own l.written [] l.parts
