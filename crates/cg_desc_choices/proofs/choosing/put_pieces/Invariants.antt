use Rattle.std.proofs.Common.{◌≡◌, ◌++◌, drop, map}
use Rattle.cg_desc_choices.specs.Choices.{piece_within}
use Rattle.cg_desc_choices.proofs.choosing.put_pieces.Given as goal

-- what stands, with what is left, is the whole
abbrev pub invariant-loop-piece : goal.invariant-loop-piece
invariant-loop-piece l = l.list ++ map (piece_within l.operand) (drop l.piece-index l.pieces) ≡ l.initial.list ++ map (piece_within l.operand) l.pieces
