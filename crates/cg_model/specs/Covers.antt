-- Which bits of an instruction a field covers. An instruction has 16 bytes at most: they are seen as one number of 128 bits, the first
-- byte the highest, so that bits are a mask.
use Rattle.std.specs.Prelude.{◌≡◌, ℕ, ◌+◌, ◌-◌, ◌*◌, ◌/◌, ◌^◌, ◌≤◌, bit_or, Bool, nat_le, if◌then◌else◌, List, [], ◌∷◌, ℤ, Option, Some, None, slice_get}
use Rattle.cg_base.specs.declared.mode.Endian.{Endian}
use Rattle.cg_base.specs.declared.mode.Endian.TheVariants.{Big}
use Rattle.cg_base.specs.Bytes.{number_of, bytes_of}
use Rattle.cg_model.specs.Matching.{fields_of_part}
use Rattle.cg_model.specs.Operators.{at_number}
use Rattle.cg_model.specs.declared.field.Field.{Field}
use Rattle.cg_model.specs.declared.insn.Insn.{Insn}
use Rattle.cg_model.specs.declared.insn.Part.{Part}
use Rattle.cg_model.specs.declared.machine.Machine.{Machine}
use Rattle.cg_model.specs.declared.rtl.Op.{Op}
use Rattle.cg_model.specs.declared.rtl.Op.TheVariants.{FieldRef}
use Rattle.cg_model.specs.declared.rtl.Rtl.{Rtl}
use Rattle.cg_model.specs.declared.rtl.Rtl.TheOpen.{Rtl-F}
use Rattle.cg_model.specs.declared.rtl.Rtl.TheFolds.{fold-Rtl}

-- A field has a bit at least, and lies within its word, which has 1 to 8 whole bytes.
pub record IsInWord (f : Field) : Type 0 where
  pub bytes : f.word_bits ≡ 8 * (f.word_bits / 8)
  pub offset : f.word_offset ≡ 8 * (f.word_offset / 8)
  pub some : 8 ≤ f.word_bits
  pub few : f.word_bits ≤ 64
  pub own : 1 ≤ f.length
  pub within : f.shift + f.length ≤ f.word_bits

-- The word lies within the 16 bytes that an instruction may have.
abbrev pub is_near : Field → Bool
is_near f = nat_le (f.word_offset + f.word_bits) 128

-- A field that lies in such a word.
pub record IsPlaced (f : Field) : Type 0 where
  pub bytes : f.word_bits ≡ 8 * (f.word_bits / 8)
  pub offset : f.word_offset ≡ 8 * (f.word_offset / 8)
  pub some : 8 ≤ f.word_bits
  pub few : f.word_bits ≤ 64
  pub inside : f.word_offset + f.word_bits ≤ 128
  pub own : 1 ≤ f.length
  pub within : f.shift + f.length ≤ f.word_bits

pub record AreInWords (m : Machine) : Type 0 where
  pub each : (k : ℕ) (f : Field) → slice_get m.fields k ≡ Some f → IsInWord f

-- How many bits stand behind a field's word.
abbrev pub behind : Field → ℕ
behind f = 8 * (16 - f.word_offset / 8 - f.word_bits / 8)

-- A number of a word as its n bytes spell it, read big end first.
abbrev pub turned : Endian → ℕ → ℕ → ℕ
turned e n x = number_of Big n (bytes_of e n x)

-- All 128 bits, where a field's word is x and all other bits are 0.
abbrev pub spread : Machine → Field → ℕ → ℕ
spread m f x = turned m.insn_endian (f.word_bits / 8) x * 2 ^ behind f

-- So many ones, from a place on.
abbrev pub ones_from : ℕ → ℕ → ℕ
ones_from shift length = 2 ^ (length + shift) - 2 ^ shift

-- The bits that a field covers.
abbrev pub cover_of : Machine → Field → ℕ
cover_of m f = spread m f (ones_from f.shift f.length)

abbrev pub field_cover : Machine → Option Field → ℕ
field_cover m None = 0
field_cover m (Some f) = cover_of m f

-- The bits that the fields of these numbers cover.
abbrev pub fields_cover : Machine → List ℕ → ℕ
fields_cover m [] = 0
fields_cover m (k ∷ ks) = bit_or (field_cover m (slice_get m.fields k)) (fields_cover m ks)

-- The bits that a part of a format covers, and those that the parts do.
abbrev pub covered_by : Machine → Part → ℕ
covered_by m p = fields_cover m (fields_of_part m p)

abbrev pub covered_by_all : Machine → List Part → ℕ
covered_by_all m [] = 0
covered_by_all m (p ∷ ps) = bit_or (covered_by m p) (covered_by_all m ps)

-- Those of a field that an expression names. One past the 16 bytes covers none of them.
abbrev pub near_cover : Machine → Option Field → ℕ
near_cover m None = 0
near_cover m (Some f) = if is_near f then cover_of m f else 0

abbrev pub own_bits : Machine → Op → ℤ → ℕ
own_bits m FieldRef n = near_cover m (at_number m.fields n)
own_bits m _ n = 0

abbrev pub all_bits : List ℕ → ℕ
all_bits [] = 0
all_bits (x ∷ xs) = bit_or x (all_bits xs)

abbrev pub named_step : Machine → Rtl-F ℕ → ℕ
named_step m f = bit_or (own_bits m f.op f.number) (all_bits f.items)

-- The bits that an expression names by its fields.
unfoldable pub named_bits : Machine → Rtl → ℕ
named_bits m rtl = fold-Rtl ℕ (named_step m) rtl

-- The bits that an instruction's assertion names.
abbrev pub asked_bits : Machine → Insn → ℕ
asked_bits m i = elim i.assertion [ None ↦ 0 | Some rule ↦ named_bits m rule ]
