-- Places in a syntax and in a format, and faults of data at them.
use Rattle.std.specs.Prelude.{ℕ, ◌+◌, Bool, List, [], ◌∷◌, map, filter, slice_get, Option, Some, None, is_some}
use Rattle.std.specs.Option.{option_map, unwrap_or}
use Rattle.cg_model_faults.specs.declared.fault.MachineFault.{MachineFault}
use Rattle.cg_model.specs.declared.machine.Machine.{Machine}
use Rattle.cg_desc_choices.specs.declared.written.Spot.{Spot}
use Rattle.cg_desc_choices.specs.declared.written.Written.{Written}
use Rattle.cg_desc_choices.specs.declared.written.WrittenPart.{WrittenPart}
use Rattle.cg_desc_choices.specs.declared.written.WrittenPiece.{WrittenPiece}
use Rattle.cg_desc_insns.specs.Parts.{own_spot}
use Rattle.cg_desc_machine.specs.Instructions.{piece_in}
use Rattle.cg_desc_fault_report.specs.declared.saying.Saying.{Saying}
use Rattle.cg_desc_fault_report.specs.declared.saying.Placed.{Placed}
use Rattle.cg_desc_fault_report.specs.Saying.{placed, fault_said}

-- Parts stand behind `+`. What a choice puts in stands where its operand does, by its place in the choice's own clause.
abbrev pub place_at : Spot → List ℕ
place_at spot = (spot.item + 1) ∷ spot.inner ∷ []

abbrev pub at_spot : Spot → Saying → Placed
at_spot spot said = placed (place_at spot) said

abbrev pub spot_or_first : Option Spot → Spot
spot_or_first spot = unwrap_or spot (own_spot 0)

-- A fault of data at the place of a part.
abbrev pub spot_of_part : WrittenPart → Spot
spot_of_part p = p.spot

abbrev pub part_spot : List WrittenPart → ℕ → Spot
part_spot ps k = spot_or_first (option_map spot_of_part (slice_get ps k))

abbrev pub at_part : Machine → Written → MachineFault → Placed
at_part m w f = at_spot (part_spot w.parts f.place) (fault_said m w.name f)

-- The spots of the pieces that a machine keeps, in their order, and a fault of data at the place of one.
abbrev pub is_kept : List (List ℕ) → WrittenPiece → Bool
is_kept slots p = is_some (piece_in slots p)

abbrev pub spot_of_piece : WrittenPiece → Spot
spot_of_piece p = p.spot

abbrev pub kept_spots : List (List ℕ) → List WrittenPiece → List Spot
kept_spots slots ps = map spot_of_piece (filter (is_kept slots) ps)

abbrev pub spot_among : List Spot → ℕ → Spot
spot_among spots k = spot_or_first (slice_get spots k)

abbrev pub at_piece : Machine → List ℕ → List Spot → MachineFault → Placed
at_piece m own spots f = at_spot (spot_among spots f.place) (fault_said m own f)

-- Parts and pieces stand in the order of their places. So of the faults of one format or syntax, which are in the order of its parts or
-- pieces, the first is the earliest.
abbrev pub first_at : {A : Type 0} → (MachineFault → A) → Option MachineFault → List A
first_at at None = []
first_at at (Some f) = at f ∷ []
