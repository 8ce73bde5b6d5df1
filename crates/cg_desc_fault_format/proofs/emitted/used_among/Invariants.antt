use Rattle.std.proofs.Common.{◌≡◌, ◌++◌, drop}
use Rattle.std.specs.List.{filter_map}
use Rattle.cg_desc_scope.specs.Seen.{seen_described}
use Rattle.cg_desc_machine.specs.Seen.{seen_items}
use Rattle.cg_desc_fault_format.specs.E313.{slot_used}
use Rattle.cg_desc_fault_format.proofs.emitted.used_among.Given as goal

-- what stands, with what is left, is the whole
abbrev pub invariant-loop-item : goal.invariant-loop-item
invariant-loop-item l =
    l.used ++ filter_map (slot_used (seen_described l.described) l.slots) (seen_items (drop l.item-index l.items)) ≡ filter_map (slot_used (seen_described l.described) l.slots) (seen_items l.items)
