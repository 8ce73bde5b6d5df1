-- Where a field lies, as its form says: in which word, and which bits of it. The numbers may be of any size; E309 is for a field that
-- leaves its word, is empty, or is longer than its mode.
use Rattle.std.specs.Prelude.{ℕ, ◌+◌, ◌-◌, ◌*◌, ◌/◌, ◌^◌, Bool, true, false, ◌&&◌, nat_lt, if◌then◌else◌, List, map, ℤ, pos, negsuc, ◌-ℤ◌, int_le, Option, Some, None}
use Rattle.std.specs.Option.{unwrap_or}
use Rattle.cg_base.specs.declared.mode.Mode.{Mode}
use Rattle.cg_base.specs.declared.mode.Mode.TheVariants.{Usi}
use Rattle.cg_base.specs.Modes.{bits_of}
use Rattle.cg_base.specs.Parts.{◌>>=◌}
use Rattle.cg_ifield.specs.declared.form.PlainForm.{PlainForm}
use Rattle.cg_model.specs.declared.field.Field.{Field}
use Rattle.cg_rtl_resolve.specs.Names.{mode_named}
use Rattle.cg_desc_data.specs.declared.framing.Framing.{Framing}
use Rattle.cg_desc_data.specs.declared.extent.Word.{Word}
use Rattle.cg_desc_data.specs.declared.extent.Extent.{Extent}
use Rattle.cg_desc_data.specs.Selecting.{Selection, members}
use Rattle.cg_desc_data.specs.Numbering.{field_in}
use Rattle.cg_desc_data.specs.Framing.{cut, size}

-- The mode that is written, and UINT where none is.
abbrev pub mode_or_uint : Framing → Option (List ℕ) → Mode
mode_or_uint b word = unwrap_or (word >>= mode_named b.word_bits) Usi

-- A field's word, and its first bit there: the word that it names, else one of the size of the shortest instruction. Where bits are
-- numbered from the highest on, that is the word in which the first bit falls; else it is the first.
abbrev pub base_word : Framing → ℕ → Word
base_word b start =
    if b.lsb0 then record { offset = 0; bits = b.base_bits; start = start }
    else let offset = start / b.base_bits * b.base_bits in record { offset = offset; bits = b.base_bits; start = start - offset }

abbrev pub word_in : Framing → ℕ → Option ℤ → Option ℤ → Word
word_in b start (Some offset) (Some length) = record { offset = cut 65535 offset; bits = size length; start = start }
word_in b start _ _ = base_word b start

abbrev pub word_of : Framing → PlainForm → Word
word_of b f = word_in b (cut 65535 f.start) f.word_offset f.word_length

-- The bit behind the highest one of a field whose first is this: the first is the highest of the field, whichever way bits are numbered.
abbrev pub top_in : Bool → Word → ℤ
top_in true w = pos (w.start + 1)
top_in false w = pos w.bits -ℤ pos w.start

abbrev pub extent_of : Framing → PlainForm → Extent
extent_of b f = let w = word_of b f in record { word_offset = w.offset; word_bits = w.bits; top = top_in b.lsb0 w; length = f.length; mode = mode_or_uint b f.mode }

-- E309: a field has a bit at least, lies in its word, and is no longer than its mode.
abbrev pub has_place : Extent → Bool
has_place e = int_le (pos 1) e.length && int_le e.length e.top && int_le e.top (pos e.word_bits) && int_le e.length (pos (bits_of e.mode))

-- E311: a constant of a field is from 0 to 2^length - 1.
abbrev pub is_constant : Extent → ℤ → Bool
is_constant e (pos c) = elim e.length [ pos n ↦ nat_lt c (2 ^ n) | negsuc n ↦ false ]
is_constant e (negsuc c) = false

-- The lowest of the field's bits that lie in its word.
abbrev pub low : Extent → ℕ
low e = cut e.word_bits (e.top -ℤ e.length)

abbrev pub length_within : Extent → ℕ
length_within e = cut e.word_bits e.top - low e

-- The field of a machine: what of it lies in its word.
abbrev pub field_at : List ℕ → Extent → Field
field_at name e = record {
  name = name;
  word_offset = e.word_offset;
  word_bits = e.word_bits;
  shift = low e;
  length = length_within e;
  mode = e.mode;
  encode = None;
  decode = None;
}

-- A field without its rules.
abbrev pub field_of : Framing → PlainForm → Field
field_of b f = field_at f.name (extent_of b f)

-- The fields of a machine, in the order of the description.
abbrev pub fields_of : Selection → Framing → List Field
fields_of s b = map (field_of b) (members s field_in)
