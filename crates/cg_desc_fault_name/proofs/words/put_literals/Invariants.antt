use Rattle.std.proofs.Common.{◌≡◌, ◌++◌, drop}
use Rattle.std.specs.List.{flat_map}
use Rattle.cg_desc_fault_name.specs.Words.{wrong_piece, wrong_literals}
use Rattle.cg_desc_fault_name.proofs.words.put_literals.Given as goal

-- what stands, with what is left, is the whole
abbrev pub invariant-loop-piece : goal.invariant-loop-piece
invariant-loop-piece l =
    l.list ++ flat_map wrong_piece (drop l.piece-index l.piece-items) ≡ l.initial.list ++ wrong_literals l.written
