use Rattle.std.proofs.Common.{◌≡◌, ◌++◌, drop}
use Rattle.cg_desc_machine.specs.Instructions.{pieces_of}
use Rattle.cg_desc_machine.proofs.instructions.pieces_of.Given as goal

-- what stands, with what is left, is the whole
abbrev pub invariant-loop-piece : goal.invariant-loop-piece
invariant-loop-piece l =
    l.list ++ pieces_of l.slots (drop l.piece-index l.pieces) ≡ pieces_of l.slots l.pieces
