use Rattle.std.proofs.Common.{◌≡◌, ◌++◌, drop, []}
use Rattle.cg_desc_fault_format.specs.E313.{pieces_behind}
use Rattle.cg_desc_fault_format.proofs.slots.put_pieces.Given as goal

-- what stands, with what is left, is the whole
abbrev pub invariant-loop-piece : goal.invariant-loop-piece
invariant-loop-piece g l =
    l.list ++ pieces_behind (g.T.SlotTest.failing l.test) l.own l.before (drop l.piece-index l.pieces) ≡ l.initial.list ++ pieces_behind (g.T.SlotTest.failing l.test) l.own [] l.pieces
