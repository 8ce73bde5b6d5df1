use Rattle.std.proofs.Common.{◌≡◌, ◌++◌, drop}
use Rattle.std.specs.Prelude.{filter}
use Rattle.std.specs.List.{filter_map}
use Rattle.cg_desc_insns.specs.Choices.{slot_name}
use Rattle.cg_desc_data.specs.Seen.{seen_numbering}
use Rattle.cg_desc_machine.specs.Instructions.{is_behind, slot_of}
use Rattle.cg_desc_machine.proofs.slots.all_behind.Given as goal

-- what stands, with what is left, is the whole
abbrev pub invariant-loop-piece : goal.invariant-loop-piece
invariant-loop-piece l =
    l.list ++ filter (is_behind (seen_numbering l.numbers) l.operands (filter_map slot_name l.parts)) (filter_map slot_of (drop l.piece-index l.pieces)) ≡ filter (is_behind (seen_numbering l.numbers) l.operands (filter_map slot_name l.parts)) (filter_map slot_of l.pieces)
