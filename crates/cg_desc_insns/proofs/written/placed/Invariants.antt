use Rattle.std.proofs.Common.{◌≡◌, ◌++◌, drop}
use Rattle.cg_desc_insns.specs.Written.{pieces_from}
use Rattle.cg_desc_insns.proofs.written.placed.Given as goal

-- those so far, with those of what is left, are those of the whole
abbrev pub invariant-loop-item : goal.invariant-loop-item
invariant-loop-item l = l.list ++ pieces_from l.item (drop l.item l.pieces) ≡ pieces_from 0 l.pieces
