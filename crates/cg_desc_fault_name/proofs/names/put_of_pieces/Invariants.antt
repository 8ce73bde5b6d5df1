use Rattle.std.proofs.Common.{◌≡◌, ◌++◌, drop}
use Rattle.cg_desc_fault_name.specs.Names.{of_pieces}
use Rattle.cg_desc_fault_name.proofs.names.put_of_pieces.Given as goal

-- what stands, with what is left, is the whole
abbrev pub invariant-loop-piece : goal.invariant-loop-piece
invariant-loop-piece g l =
    l.list ++ of_pieces (g.R.NameRule.wrong l.rule) (drop l.piece-index l.pieces) ≡ l.initial.list ++ of_pieces (g.R.NameRule.wrong l.rule) l.pieces
