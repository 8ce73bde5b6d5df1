-- E310: two parts of a format cover one bit. A part that has several fields, by a multi field, may cover a bit twice itself.
use Rattle.std.specs.Prelude.{ℕ, suc, Bool, not, ◌+◌, ◌*◌, ◌/◌, ◌==◌, ◌&&◌, nat_le, bit_and, if◌then◌else◌, List, [], ◌∷◌, ◌++◌, Option, Some, None, slice_get}
use Rattle.cg_model.specs.Covers.{cover_of}
use Rattle.cg_model.specs.Matching.{fields_of_part}
use Rattle.cg_model_faults.specs.Finding.{Faults, at_place}
use Rattle.cg_model_faults.specs.declared.fault.Said.TheVariants.{Own, Fields}
use Rattle.cg_model.specs.declared.field.Field.{Field}
use Rattle.cg_model.specs.declared.insn.Part.{Part}
use Rattle.cg_model.specs.declared.machine.Machine.{Machine}

-- Two sets of bits have one in common.
abbrev pub meets : ℕ → ℕ → Bool
meets a b = not (bit_and a b == 0)

-- A field has its place in an instruction: a word of 1 to 8 whole bytes within the 16 bytes that there may be, and it lies in its word.
abbrev pub is_placed : Field → Bool
is_placed f =
    f.word_bits == 8 * (f.word_bits / 8) && f.word_offset == 8 * (f.word_offset / 8) && nat_le 8 f.word_bits && nat_le f.word_bits 64
    && nat_le (f.word_offset + f.word_bits) 128 && nat_le 1 f.length && nat_le (f.shift + f.length) f.word_bits

-- The bits that the field of a number covers. One that leaves its word covers none (that is E309), and neither does one in a word
-- that leaves the instruction (that is E308).
abbrev pub bits_covered : Machine → ℕ → ℕ
bits_covered m k = elim (slice_get m.fields k) [ None ↦ 0 | Some f ↦ if is_placed f then cover_of m f else 0 ]

-- The first of these fields that covers one of some bits.
abbrev pub first_meeting : Machine → ℕ → List ℕ → Option ℕ
first_meeting m bits [] = None
first_meeting m bits (k ∷ ks) = if meets bits (bits_covered m k) then Some k else first_meeting m bits ks

-- The first two fields, one of each list, that cover one bit.
abbrev pub first_two : Machine → List ℕ → List ℕ → Option (ℕ × ℕ)
first_two m [] ks = None
first_two m (j ∷ js) ks = elim (first_meeting m (bits_covered m j) ks) [ Some k ↦ Some (j, k) | None ↦ first_two m js ks ]

abbrev pub overlap_at : ℕ → Option (ℕ × ℕ) → Faults
overlap_at place None = []
overlap_at place (Some two) = at_place 310 place Own (Fields two.0 two.1) ∷ []

-- The part at a place, whose fields are these, and each of the parts behind it.
abbrev pub overlaps_with : Machine → ℕ → List ℕ → List Part → Faults
overlaps_with m place js [] = []
overlaps_with m place js (q ∷ qs) = overlap_at place (first_two m js (fields_of_part m q)) ++ overlaps_with m place js qs

abbrev pub overlaps_from : Machine → ℕ → List Part → Faults
overlaps_from m place [] = []
overlaps_from m place (p ∷ ps) = overlaps_with m place (fields_of_part m p) ps ++ overlaps_from m (suc place) ps

-- Of a format, at the first of two parts that do.
abbrev pub overlaps : Machine → List Part → Faults
overlaps m parts = overlaps_from m 0 parts
