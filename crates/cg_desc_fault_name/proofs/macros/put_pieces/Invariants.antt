use Rattle.std.proofs.Common.{◌≡◌, ◌++◌, map, drop}
use Rattle.std.specs.List.{filter_map}
use Rattle.cg_desc_scope.specs.Seen.{seen_described}
use Rattle.cg_desc_machine.specs.Instructions.{slot_of}
use Rattle.cg_desc_fault_name.specs.MacroNames.{operand_judged}
use Rattle.cg_desc_fault_name.proofs.macros.put_pieces.Given as goal

-- what stands, with what is left, is the whole
abbrev pub invariant-loop-piece : goal.invariant-loop-piece
invariant-loop-piece l =
    l.list ++ map (operand_judged (seen_described l.described)) (filter_map slot_of (drop l.piece-index l.pieces)) ≡ l.initial.list ++ map (operand_judged (seen_described l.described)) (filter_map slot_of l.pieces)
