use Rattle.std.proofs.Common.{◌≡◌, drop}
use Rattle.cg_model_faults.specs.E313.{is_written}
use Rattle.cg_desc_check_format.proofs.slots.is_written.Given as goal

-- it is written in what is left as in the whole
abbrev pub invariant-loop-piece : goal.invariant-loop-piece
invariant-loop-piece l = is_written l.slot (drop l.piece-index l.pieces) ≡ is_written l.slot l.pieces
