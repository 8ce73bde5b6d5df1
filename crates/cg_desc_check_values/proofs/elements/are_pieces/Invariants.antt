use Rattle.std.proofs.Common.{◌≡◌, drop}
use Rattle.std.specs.List.{list_all}
use Rattle.cg_model.specs.Formed.{is_piece}
use Rattle.cg_desc_check_values.proofs.elements.are_pieces.Given as goal

abbrev pub invariant-loop-piece : goal.invariant-loop-piece
invariant-loop-piece l = list_all is_piece (drop l.piece-index l.pieces) ≡ list_all is_piece l.pieces
