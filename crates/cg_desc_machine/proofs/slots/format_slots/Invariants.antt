use Rattle.std.proofs.Common.{◌≡◌, ◌++◌, drop}
use Rattle.std.specs.List.{filter_map}
use Rattle.cg_desc_insns.specs.Choices.{slot_name}
use Rattle.cg_desc_machine.specs.Instructions.{format_slots}
use Rattle.cg_desc_machine.proofs.slots.format_slots.Given as goal

-- what stands, with what is left, is the whole
abbrev pub invariant-loop-part : goal.invariant-loop-part
invariant-loop-part l =
    l.list ++ filter_map slot_name (drop l.part-index l.part-items) ≡ format_slots l.written
