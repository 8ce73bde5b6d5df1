use Rattle.std.proofs.Common.{◌≡◌, ◌++◌, drop}
use Rattle.cg_desc_fault_report.specs.Spots.{kept_spots}
use Rattle.cg_desc_fault_format.proofs.delimited.kept_spots.Given as goal

-- what stands, with what is left, is the whole
abbrev pub invariant-loop-piece : goal.invariant-loop-piece
invariant-loop-piece l =
    l.spots ++ kept_spots l.slots (drop l.piece-index l.pieces) ≡ kept_spots l.slots l.pieces
