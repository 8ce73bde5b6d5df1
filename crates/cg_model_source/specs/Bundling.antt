-- The instructions of a bundle, each at its own address.
use Rattle.std.specs.Prelude.{ℕ, ◌+◌, Bool, ◌==◌, if◌then◌else◌, List, [], ◌∷◌, ◌++◌, ℤ, Option, Some, None, Result, Ok, Err, slice_get}
use Rattle.cg_model_source.specs.Choosing.{Choice, SourceFault, chosen, bytes_for}
use Rattle.cg_model.specs.Encoding.{with_bits}
use Rattle.cg_model.specs.Matching.{length_of}
use Rattle.cg_model.specs.declared.machine.Machine.{Machine}

-- A text between two `||`: nothing, what is refused, or an instruction at an address.
pub data BundlePart : Type 0 where
  empty : BundlePart
  refused : SourceFault → BundlePart
  stands : (address : ℕ) → Choice → BundlePart

abbrev pub chosen_part : ℕ → Result Choice SourceFault → BundlePart
chosen_part address (Ok c) = stands address c
chosen_part address (Err fault) = refused fault

abbrev pub part_of : Machine → List (List ℕ) → ℕ → List ℕ → BundlePart
part_of m words address [] = empty
part_of m words address (b ∷ bs) = chosen_part address (chosen m words address (b ∷ bs))

abbrev pub part_size : Machine → BundlePart → ℕ
part_size m empty = 0
part_size m (refused fault) = 0
part_size m (stands address c) = length_of m c.insn

-- The parts of a bundle that begins at an address.
abbrev pub parts_at : Machine → List (List ℕ) → ℕ → List (List ℕ) → List BundlePart
parts_at m words address [] = []
parts_at m words address (t ∷ ts) =
    let part = part_of m words address t in
    part ∷ parts_at m words (address + part_size m part) ts

-- The parts that are refused under a number.
abbrev pub refused_as : ℕ → BundlePart → List SourceFault
refused_as number (refused fault) = if fault.number == number then fault ∷ [] else []
refused_as number _ = []

abbrev pub all_refused_as : ℕ → List BundlePart → List SourceFault
all_refused_as number [] = []
all_refused_as number (p ∷ ps) = refused_as number p ++ all_refused_as number ps

-- Another instruction follows in the bundle: the bundle's bit is 1.
abbrev pub with_bundle_bit : Machine → Option ℕ → List ℕ → List ℕ
with_bundle_bit m None bytes = bytes
with_bundle_bit m (Some k) bytes = elim (slice_get m.fields k) [ None ↦ bytes | Some f ↦ with_bits m f 1 bytes ]

-- An instruction at an address, with these numbers in its slots.
abbrev pub instruction_bytes : Machine → Bool → ℕ → Choice → List (Option ℤ) → List ℕ
instruction_bytes m more address c numbers = if more then with_bundle_bit m m.bundle (bytes_for m c.insn numbers address) else bytes_for m c.insn numbers address
