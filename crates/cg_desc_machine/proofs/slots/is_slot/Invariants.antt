use Rattle.std.proofs.Common.{◌≡◌, drop}
use Rattle.std.specs.List.{filter_map}
use Rattle.cg_base.specs.Texts.{is_among}
use Rattle.cg_desc_insns.specs.Choices.{slot_name}
use Rattle.cg_desc_machine.proofs.slots.is_slot.Given as goal

-- the name stands among those of what is left where it stands among all
abbrev pub invariant-loop-part : goal.invariant-loop-part
invariant-loop-part l =
    is_among (filter_map slot_name (drop l.part-index l.parts)) l.name ≡ is_among (filter_map slot_name l.parts) l.name
