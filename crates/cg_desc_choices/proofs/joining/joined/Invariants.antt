use Rattle.std.proofs.Common.{◌≡◌, ◌++◌, drop}
use Rattle.cg_desc_choices.specs.Choices.{joined}
use Rattle.cg_desc_choices.specs.Holding.{behind_held}
use Rattle.cg_desc_choices.proofs.joining.joined.Given as goal

-- what is left, behind what is held back, is the whole
abbrev pub invariant-loop-piece : goal.invariant-loop-piece
invariant-loop-piece l = l.list ++ behind_held l.before (joined (drop l.piece-index l.pieces)) ≡ joined l.pieces
