-- The bytes of the parts of a bundle.
use Rattle.std.specs.Prelude.{◌≡◌, ℕ, ◌+◌, ◌<◌, ◌≤◌, Bool, true, false, List, [], ◌∷◌, ◌++◌, length, ℤ, Option, Some, None, slice_get}
use Rattle.cg_syntax_choose.specs.Trying.{as_choice, operands_at}
use Rattle.cg_syntax_choose.specs.declared.trying.Choice.{Choice}
use Rattle.cg_model_source.specs.Bundling.{instruction_bytes}
use Rattle.cg_model_source.specs.Choosing.{Objection, objection, known_all}
use Rattle.cg_model.specs.declared.field.Field.{Field}
use Rattle.cg_model.specs.declared.machine.Machine.{Machine}
use Rattle.cg_syntax.specs.declared.bundle.Part.{Part}
use Rattle.cg_syntax.specs.declared.bundle.Part.TheVariants.{Stands}

-- The bundle field, where there is one, has one bit, in a word that lies in the shortest instruction.
abbrev pub HasBundleBit : Machine → Type 0
HasBundleBit m = (k : ℕ) (f : Field) → m.bundle ≡ Some k → slice_get m.fields k ≡ Some f → (f.length ≡ 1) × (f.word_offset + f.word_bits ≤ m.base_bits)

-- What is chosen, with these numbers in its slots: what keeps it from standing at an address, and its bytes there.
abbrev pub objection_at : Machine → Choice → List (Option ℤ) → ℕ → Option Objection
objection_at m c numbers address = elim (slice_get m.insns c.insn) [ None ↦ None | Some i ↦ objection m i numbers address ]

abbrev pub bytes_at : Machine → Choice → List (Option ℤ) → ℕ → Bool → List ℕ
bytes_at m c numbers address more = elim (slice_get m.insns c.insn) [ None ↦ [] | Some i ↦ instruction_bytes m more address (as_choice c i) numbers ]

-- An instruction that there is, and just as many sums as it has slots.
abbrev pub IsWithin : Machine → Part → Type 0
IsWithin m (Stands address c) = (c.insn < length m.insns) × (length c.sums ≡ length (operands_at m c.insn))
IsWithin m _ = Unit {0}

abbrev pub AreWithin : Machine → List Part → Type 0
AreWithin m [] = Unit {0}
AreWithin m (p ∷ ps) = IsWithin m p × AreWithin m ps

abbrev pub part_bytes : Machine → Part → Bool → List ℕ
part_bytes m (Stands address c) more = bytes_at m c (known_all c.sums) address more
part_bytes m _ more = []

abbrev pub is_more : List Part → Bool
is_more [] = false
is_more (p ∷ ps) = true

abbrev pub told_bytes : Machine → List Part → List ℕ
told_bytes m [] = []
told_bytes m (p ∷ ps) = part_bytes m p (is_more ps) ++ told_bytes m ps
