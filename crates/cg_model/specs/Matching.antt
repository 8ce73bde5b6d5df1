-- When bytes are an instruction.
use Rattle.std.specs.Prelude.{◌≡◌, ℕ, ◌+◌, ◌/◌, max, Bool, true, not, ◌&&◌, ◌==◌, nat_le, List, [], ◌∷◌, ◌++◌, length, Option, Some, None, slice_get}
use Rattle.std.specs.List.{list_all}
use Rattle.cg_model.specs.declared.field.Field.{Field}
use Rattle.cg_model.specs.declared.insn.Insn.{Insn}
use Rattle.cg_model.specs.declared.insn.Part.{Part}
use Rattle.cg_model.specs.declared.insn.Part.TheVariants.{Constant, Slot}
use Rattle.cg_model.specs.declared.machine.Machine.{Machine}
use Rattle.cg_model.specs.declared.operand.Source.{Source}
use Rattle.cg_model.specs.declared.operand.Source.TheVariants as source
use Rattle.cg_model.specs.Pure.{pure_value}
use Rattle.cg_model.specs.Fields.{bits_at, around_fields}

-- The fields that hold an operand's value.
abbrev pub fields_of_source : Machine → Source → List ℕ
fields_of_source m (source.Field f) = f ∷ []
fields_of_source m (source.Multi x) = elim (slice_get m.multis x) [ None ↦ [] | Some multi ↦ multi.subs ]
fields_of_source m _ = []

-- The fields that a part of a format covers.
abbrev pub fields_of_part : Machine → Part → List ℕ
fields_of_part m (Constant field value) = field ∷ []
fields_of_part m (Slot operand) = elim (slice_get m.operands operand) [ None ↦ [] | Some o ↦ fields_of_source m o.source ]

abbrev pub fields_of_parts : Machine → List Part → List ℕ
fields_of_parts m [] = []
fields_of_parts m (p ∷ ps) = fields_of_part m p ++ fields_of_parts m ps

-- The end of a field's word, in bits.
abbrev pub end_of : Option Field → ℕ
end_of None = 0
end_of (Some f) = f.word_offset + f.word_bits

abbrev pub last_end : Machine → List ℕ → ℕ
last_end m [] = 0
last_end m (k ∷ ks) = max (end_of (slice_get m.fields k)) (last_end m ks)

-- How many bytes an instruction has: up to the end of its last word, and the machine's shortest instruction at least.
abbrev pub length_of : Machine → Insn → ℕ
length_of m i = max m.base_bits (last_end m (fields_of_parts m i.parts)) / 8

-- A constant stands in its field.
abbrev pub part_stands : Machine → List ℕ → Part → Bool
part_stands m bytes (Constant field value) = elim (slice_get m.fields field) [ None ↦ true | Some f ↦ bits_at m f bytes == value ]
part_stands m bytes (Slot s) = true

-- The assertion isn't 0. It names neither the pc nor a field with a rule, so the pc doesn't matter and counts as 0.
abbrev pub asserts : Machine → Insn → List ℕ → Bool
asserts m i bytes = elim i.assertion [ None ↦ true | Some rule ↦ not (pure_value m (around_fields m bytes 0) rule None == 0) ]

-- The bytes are long enough, hold each constant in its field, and meet the assertion.
abbrev pub matches : Machine → Insn → List ℕ → Bool
matches m i bytes = nat_le (length_of m i) (length bytes) && list_all (part_stands m bytes) i.parts && asserts m i bytes

-- Bytes may be decoded to instruction number k: the machine has it, decodes to it, and it matches.
pub record IsMatch (m : Machine) (bytes : List ℕ) (k : ℕ) : Type 0 where
  pub insn : Insn
  pub within : slice_get m.insns k ≡ Some insn
  pub decodable : insn.decodable ≡ true
  pub matching : matches m insn bytes ≡ true

-- Bytes are decoded to instruction number k: it, and no other, may be.
pub record Decodes (m : Machine) (bytes : List ℕ) (k : ℕ) : Type 0 where
  pub is_match : IsMatch m bytes k
  pub alone : (j : ℕ) → IsMatch m bytes j → j ≡ k
