use Rattle.std.proofs.Common.{◌≡◌, map, drop}
use Rattle.cg_base.specs.Texts.{is_among}
use Rattle.cg_desc_machine.specs.Seen.{seen_items}
use Rattle.cg_desc_fault_format.specs.E313.{first_name}
use Rattle.cg_desc_fault_format.proofs.emitted.is_given.Given as goal

-- the name is among what is left where it is among all
abbrev pub invariant-loop-item : goal.invariant-loop-item
invariant-loop-item l =
    is_among (map first_name (seen_items (drop l.item-index l.items))) l.name ≡ is_among (map first_name (seen_items l.items)) l.name
