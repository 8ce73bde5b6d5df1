use Rattle.std.proofs.Common.{◌≡◌, ◌++◌, drop}
use Rattle.cg_desc_references.specs.References.{slots}
use Rattle.cg_desc_references.proofs.references.put_slots.Given as goal

-- the names so far, with those of what is left, are those of the whole
abbrev pub invariant-loop-piece : goal.invariant-loop-piece
invariant-loop-piece l = l.list ++ slots l.place (drop l.piece-index l.pieces) ≡ l.initial.list ++ slots l.place l.pieces
