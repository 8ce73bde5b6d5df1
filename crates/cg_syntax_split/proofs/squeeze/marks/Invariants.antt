use Rattle.std.proofs.Common.{◌≡◌, ◌++◌, drop}
use Rattle.cg_model_source.specs.Squeezing.{marks}
use Rattle.cg_syntax_split.proofs.squeeze.marks.Given as goal

-- with the marks of what is left they are those of the whole
abbrev pub invariant-loop-piece : goal.invariant-loop-piece
invariant-loop-piece l = l.marks.items ++ marks (drop l.piece-index l.pieces) ≡ marks l.pieces
