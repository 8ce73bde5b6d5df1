-- The constants of a format in the whole.
use Rattle.std.specs.Prelude.{◌≡◌, ℕ, ◌^◌, ◌<◌, bit_and, bit_or, List, [], ◌∷◌, Option, Some, None, slice_get}
use Rattle.cg_model.specs.declared.field.Field.{Field}
use Rattle.cg_model.specs.declared.insn.Part.{Part}
use Rattle.cg_model.specs.declared.insn.Part.TheVariants.{Constant, Slot}
use Rattle.cg_model.specs.declared.machine.Machine.{Machine}
use Rattle.cg_code_mask.specs.View.{placed}
use Rattle.cg_model.specs.Covers.{IsPlaced, field_cover}

abbrev pub field_placed : Machine → Option Field → ℕ → ℕ
field_placed m None v = 0
field_placed m (Some f) v = placed m f v

abbrev pub part_cover : Machine → Part → ℕ
part_cover m (Constant field value) = field_cover m (slice_get m.fields field)
part_cover m (Slot s) = 0

abbrev pub part_value : Machine → Part → ℕ
part_value m (Constant field value) = field_placed m (slice_get m.fields field) value
part_value m (Slot s) = 0

-- The bits that constants cover.
abbrev pub parts_cover : Machine → List Part → ℕ
parts_cover m [] = 0
parts_cover m (p ∷ ps) = bit_or (part_cover m p) (parts_cover m ps)

-- The constants in place.
abbrev pub parts_value : Machine → List Part → ℕ
parts_value m [] = 0
parts_value m (p ∷ ps) = bit_or (part_value m p) (parts_value m ps)

-- A constant's number fits its field, which lies in the 16 bytes.
abbrev pub IsFitting : Machine → Part → Type 0
IsFitting m (Constant field value) = (f : Field) → slice_get m.fields field ≡ Some f → (value < 2 ^ f.length) × IsPlaced f
IsFitting m (Slot s) = Unit {0}

-- Constants fit their fields, and no two of them cover one bit.
abbrev pub AreFitting : Machine → List Part → Type 0
AreFitting m [] = Unit {0}
AreFitting m (p ∷ ps) = IsFitting m p × (bit_and (part_cover m p) (parts_cover m ps) ≡ 0) × AreFitting m ps
