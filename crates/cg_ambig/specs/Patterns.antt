-- What an instruction says of the whole.
use Rattle.std.specs.Prelude.{◌≡◌, ℕ, ◌≤◌, Bool, true, false, List, Option, Some, None, slice_get, count_ones}
use Rattle.cg_model.specs.declared.insn.Insn.{Insn}
use Rattle.cg_model.specs.declared.machine.Machine.{Machine}
use Rattle.cg_model.specs.Matching.{asserts, fields_of_parts, length_of}
use Rattle.cg_model.specs.Sound.{is_allowed, of_format}
use Rattle.cg_model.specs.declared.rtl.Rtl.{Rtl}
use Rattle.cg_ambig_pattern.specs.declared.pairs.Pattern.{Pattern}
use Rattle.cg_model.specs.Covers.{AreInWords, asked_bits}
use Rattle.cg_code_mask.specs.View.{bytes_of_whole}
use Rattle.cg_code_mask.specs.Constants.{parts_cover, parts_value, AreFitting}

abbrev pub pattern : Machine → Insn → Pattern
pattern m i = record { decodable = i.decodable; cover = parts_cover m i.parts; value = parts_value m i.parts; named = asked_bits m i }

abbrev pub asserted_of : Machine → Option Insn → List ℕ → Bool
asserted_of m None bytes = false
asserted_of m (Some i) bytes = asserts m i bytes

-- Whether the assertion of instruction k holds of a whole.
abbrev pub asserted : Machine → ℕ → ℕ → Bool
asserted m k w = asserted_of m (slice_get m.insns k) (bytes_of_whole w)

-- What patterns need of a machine, and a sound one has: its fields lie in their words, its instructions have 16 bytes at most, the constants of each
-- format fit and don't overlap, and an assertion names fields of its own format alone, 8 bits of them at most.
pub record HasPatterns (m : Machine) : Type 0 where
  pub placed : AreInWords m
  pub short : (k : ℕ) (i : Insn) → slice_get m.insns k ≡ Some i → length_of m i ≤ 16
  pub fitting : (k : ℕ) (i : Insn) → slice_get m.insns k ≡ Some i → AreFitting m i.parts
  pub named : (k : ℕ) (i : Insn) → slice_get m.insns k ≡ Some i → (rule : Rtl) → i.assertion ≡ Some rule → is_allowed (of_format m (fields_of_parts m i.parts)) rule ≡ true
  pub few : (k : ℕ) (i : Insn) → slice_get m.insns k ≡ Some i → count_ones (asked_bits m i) ≤ 8
