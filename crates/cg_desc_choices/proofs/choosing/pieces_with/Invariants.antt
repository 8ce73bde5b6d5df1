use Rattle.std.proofs.Common.{◌≡◌, ◌++◌, drop, map}
use Rattle.std.specs.List.{flat_map}
use Rattle.cg_desc_choices.specs.Choices.{seen_chosen, pieces_for}
use Rattle.cg_desc_choices.proofs.choosing.pieces_with.Given as goal

-- what stands, with what is left, is the whole
abbrev pub invariant-loop-piece : goal.invariant-loop-piece
invariant-loop-piece l = l.list ++ flat_map (pieces_for (map seen_chosen l.chosen)) (drop l.piece-index l.pieces) ≡ flat_map (pieces_for (map seen_chosen l.chosen)) l.pieces
