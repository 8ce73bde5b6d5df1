use Rattle.std.proofs.Common.{◌≡◌, drop, []}
use Rattle.cg_base.specs.Refusing.{first}
use Rattle.cg_desc_machine.specs.Seen.{seen_items}
use Rattle.cg_desc_fault_format.specs.E313.{items_behind}
use Rattle.cg_desc_fault_format.proofs.emitted.first_wrong.Given as goal

-- the first of what is left is the first of the whole
abbrev pub invariant-loop-item : goal.invariant-loop-item
invariant-loop-item l =
    first (items_behind l.own l.slots l.wanted l.before (seen_items (drop l.item-index l.items))) ≡ first (items_behind l.own l.slots l.wanted [] (seen_items l.items))
