-- E316: the bundle field isn't one bit of the first word, or overlaps a format.
use Rattle.std.specs.Prelude.{ℕ, suc, Bool, not, ◌+◌, ◌&&◌, ◌==◌, nat_le, is_some, List, [], ◌∷◌, ◌++◌, Some, None, slice_get}
use Rattle.cg_model.specs.Matching.{fields_of_part}
use Rattle.cg_model_faults.specs.Finding.{Faults, at_place, where_so}
use Rattle.cg_model_faults.specs.E310.{bits_covered, first_meeting}
use Rattle.cg_model_faults.specs.declared.fault.Said.TheVariants as said
use Rattle.cg_model.specs.declared.field.Field.{Field}
use Rattle.cg_model.specs.declared.insn.Part.{Part}
use Rattle.cg_model.specs.declared.machine.Machine.{Machine}

-- It has one bit, in a word that lies in the shortest instruction, so that it can be told from the bytes of each.
abbrev pub is_bundle_bit : Machine → Field → Bool
is_bundle_bit m f = f.length == 1 && nat_le (f.word_offset + f.word_bits) m.base_bits

abbrev pub no_bundle_bit : Machine → Faults
no_bundle_bit m = elim m.bundle [
  | None ↦ []
  | Some k ↦ elim (slice_get m.fields k) [ None ↦ [] | Some f ↦ where_so (not (is_bundle_bit m f)) (at_place 316 0 (said.Field k) said.Nothing) ]
]

-- Each part, from a place on, that covers the bit of the field.
abbrev pub bundled_from : Machine → ℕ → ℕ → List Part → Faults
bundled_from m k place [] = []
bundled_from m k place (p ∷ ps) = where_so (is_some (first_meeting m (bits_covered m k) (fields_of_part m p))) (at_place 316 place (said.Field k) said.Own) ++ bundled_from m k (suc place) ps

-- Of a format, at the part.
abbrev pub bundled : Machine → List Part → Faults
bundled m parts = elim m.bundle [ None ↦ [] | Some k ↦ bundled_from m k 0 parts ]
