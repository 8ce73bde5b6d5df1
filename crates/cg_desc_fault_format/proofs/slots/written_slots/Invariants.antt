use Rattle.std.proofs.Common.{◌≡◌, ◌++◌, drop}
use Rattle.std.specs.List.{filter_map}
use Rattle.cg_desc_machine.specs.Instructions.{slot_of}
use Rattle.cg_desc_fault_format.proofs.slots.written_slots.Given as goal

-- what stands, with what is left, is the whole
abbrev pub invariant-loop-piece : goal.invariant-loop-piece
invariant-loop-piece l =
    l.list ++ filter_map slot_of (drop l.piece-index l.pieces) ≡ filter_map slot_of l.pieces
