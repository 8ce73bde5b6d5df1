-- The bytes of an instruction as one number of 128 bits, the first byte the highest. Bytes past the end count as 0.
use Rattle.std.specs.Prelude.{ℕ, ◌+◌, ◌-◌, ◌*◌, ◌/◌, ◌%◌, ◌^◌, bit_or, bit_xor, List}
use Rattle.byteorder.specs.Endian.{big_number, big_bytes}
use Rattle.cg_base.specs.declared.mode.Endian.{Endian}
use Rattle.cg_base.specs.declared.mode.Endian.TheVariants.{Big, Little}
use Rattle.cg_model.specs.Covers.{behind, spread, cover_of}
use Rattle.cg_model.specs.declared.field.Field.{Field}
use Rattle.cg_model.specs.declared.machine.Machine.{Machine}

unfoldable pub whole : List ℕ → ℕ
whole bytes = big_number 16 bytes

-- The 16 bytes of a whole.
unfoldable pub bytes_of_whole : ℕ → List ℕ
bytes_of_whole w = big_bytes 16 w

-- The place, among the bits of a word that is read big end first, of bit p of the word.
abbrev pub turned_place : Endian → ℕ → ℕ → ℕ
turned_place Big n p = p
turned_place Little n p = 8 * (n - 1 - p / 8) + p % 8

-- The place of a field's bit t in the whole.
abbrev pub place : Machine → Field → ℕ → ℕ
place m f t = behind f + turned_place m.insn_endian (f.word_bits / 8) (f.shift + t)

-- A number's bits at the field's places.
abbrev pub placed : Machine → Field → ℕ → ℕ
placed m f v = spread m f (v * 2 ^ f.shift)

-- The whole w with the bits of `cover` set as `value` has them.
abbrev pub with_set : ℕ → ℕ → ℕ → ℕ
with_set cover value w = bit_or (bit_xor (bit_or w cover) cover) value

-- The whole w with v in a field.
abbrev pub with_field : Machine → Field → ℕ → ℕ → ℕ
with_field m f v w = with_set (cover_of m f) (placed m f v) w
