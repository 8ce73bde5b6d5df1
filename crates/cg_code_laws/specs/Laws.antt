-- Laws of encodings: there is one at most, it matches, its values are those that were encoded, and bytes whose values go back to
-- their fields are the encoding of their values.
use Rattle.std.specs.Prelude.{◌≡◌, ℕ, ◌≤◌, true, List, [], ◌∷◌, length, take, Some, None, slice_get, bit_and}
use Rattle.cg_base.specs.Modes.{bits_of}
use Rattle.cg_code.specs.Coded.{matches_at, values_at}
use Rattle.cg_code.specs.Coding.{IsEncodedAt}
use Rattle.cg_model.specs.Clashing.{AreBytes}
use Rattle.cg_model.specs.Covers.{covered_by_all}
use Rattle.cg_model.specs.Encoding.{Setting, slot_settings, Encodes}
use Rattle.cg_model.specs.Fields.{bits_at}
use Rattle.cg_model.specs.Matching.{length_of, matches}
use Rattle.cg_model.specs.Slots.{slot_mode, slots_of, source_value, values}
use Rattle.cg_model.specs.declared.field.Field.{Field}
use Rattle.cg_model.specs.declared.insn.Insn.{Insn}
use Rattle.cg_model.specs.declared.machine.Machine.{Machine}
use Rattle.cg_model.specs.declared.operand.Operand.{Operand}
use Rattle.cg_model.specs.declared.operand.Source.TheVariants as source
use Rattle.cg_code_mask.specs.View.{whole}

-- Fields hold the bits to which they would be set.
abbrev pub AreHeld : Machine → List ℕ → List Setting → Type 0
AreHeld m bytes [] = Unit {0}
AreHeld m bytes (x ∷ xs) = (bits_at m x.field bytes ≡ x.bits) × AreHeld m bytes xs

-- The value of each slot goes back: its fields hold what is encoded for the value that they give. (Where a slot is narrower than its
-- field, or a rule loses something, other bits may give the same value.)
abbrev pub GoBack : Machine → List ℕ → ℕ → List Operand → Type 0
GoBack m bytes pc [] = Unit {0}
GoBack m bytes pc (o ∷ os) = AreHeld m bytes (slot_settings m pc o (source_value m bytes pc o)) × GoBack m bytes pc os

-- The value of an operand is that of a plain field, which has no rules, in a mode of as many bits at least.
pub record IsPlain (m : Machine) (o : Operand) : Type 0 where
  pub place : ℕ
  pub field : Field
  pub source : o.source ≡ source.Field place
  pub at : slice_get m.fields place ≡ Some field
  pub no_encode : field.encode ≡ None
  pub no_decode : field.decode ≡ None
  pub wide : field.length ≤ bits_of (slot_mode m o)

-- All bits that no part of the format covers are 0.
pub record IsBare (m : Machine) (i : Insn) (bytes : List ℕ) : Type 0 where
  pub bare : bit_and (whole bytes) (covered_by_all m i.parts) ≡ whole bytes

-- Bytes of an instruction's length that it matches, with 0 in all bits that no part covers, and of which each slot's value goes back.
pub record ComesBack (m : Machine) (i : Insn) (pc : ℕ) (bytes : List ℕ) : Type 0 where
  pub are_bytes : AreBytes bytes
  pub long : length bytes ≡ length_of m i
  pub matching : matches m i bytes ≡ true
  pub bare : IsBare m i bytes
  pub slots : GoBack m bytes pc (slots_of m i.parts)

-- What was encoded is matched, and its values are had again.
pub record Reads (m : Machine) (k : ℕ) (vs : List ℕ) (pc : ℕ) (bytes : List ℕ) : Type 0 where
  pub matching : matches_at m k bytes ≡ true
  pub same : values_at m k bytes pc ≡ vs

pub record EncodingLaws (m : Machine) : Type 0 where
  -- values have one encoding at most
  pub only : (i : Insn) (vs : List ℕ) (pc : ℕ) (b c : List ℕ) → Encodes m i vs pc b → Encodes m i vs pc c → b ≡ c
  -- what was encoded is matched and gives the values
  pub reads : (k : ℕ) (vs : List ℕ) (pc len : ℕ) (out : List ℕ) → IsEncodedAt m k vs pc len out → Reads m k vs pc (take len out)
  -- and has no bit but those that the format's parts cover
  pub bare : (k : ℕ) (i : Insn) (vs : List ℕ) (pc : ℕ) (b : List ℕ) → slice_get m.insns k ≡ Some i → Encodes m i vs pc b → IsBare m i b
  -- the value of a plain field goes back
  pub plain : (o : Operand) (pc : ℕ) (b : List ℕ) → IsPlain m o → AreHeld m b (slot_settings m pc o (source_value m b pc o))
  -- bytes that come back are the encoding of their values
  pub back : (k : ℕ) (i : Insn) (pc : ℕ) (b : List ℕ) → slice_get m.insns k ≡ Some i → ComesBack m i pc b → Encodes m i (values m i b pc) pc b
