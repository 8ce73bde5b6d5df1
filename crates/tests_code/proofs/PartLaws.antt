-- What the judge finds of formats, assertions and instructions.
use Rattle.std.proofs.Common.{◌≡◌, ℕ, suc, ◌+◌, ◌^◌, ◌<◌, ◌≤◌, bit_and, count_ones, true, drop, get_or, length, List, [], ◌∷◌, Option, Some, None, slice_get, sym, ap, ◌∙◌, subst, arith}
use Rattle.std.proofs.lemmas.Grind.{common_steps}
use Rattle.std.proofs.Math.Seq.{drop-cons}
use Rattle.std.proofs.lemmas.List.{drop_all}
use Rattle.cg_code_mask.proofs.Formats.{near_placed, or_assoc, or_zero, zero_or}
use Rattle.cg_model.specs.Covers.{AreInWords, covered_by, covered_by_all, named_bits}
use Rattle.cg_model.specs.Matching.{length_of}
use Rattle.cg_model.specs.Slots.{slots_of}
use Rattle.cg_model.specs.Sound.{is_there, is_word, IsSound, SoundField, SoundInsn, SoundBase, PartFits, AreApart, IsAssertion}
use Rattle.cg_model.specs.declared.field.Field.{Field}
use Rattle.cg_model.specs.declared.insn.Insn.{Insn}
use Rattle.cg_model.specs.declared.insn.Part.{Part}
use Rattle.cg_model.specs.declared.insn.Part.TheVariants.{Constant, Slot}
use Rattle.cg_model.specs.declared.machine.Machine.{Machine}
use Rattle.cg_model.specs.declared.operand.Operand.{Operand}
use Rattle.cg_model.specs.declared.rtl.Rtl.{Rtl}
use Rattle.cg_model_faults.specs.E313.{slot_operands}
use Rattle.tests_code.specs.Judged.{Each, MayAssert, HasSoundElements}
use Rattle.tests_code.proofs.FieldLaws.{each}

pub ruleset placing = (common_steps, near_placed)

pub ruleset cover_rules = (common_steps, or_assoc, or_zero, zero_or)

pub ruleset apart_laws = (common_steps)

-- a constant fits the field that is there
abbrev Below : ℕ → Option Field → Type 0
Below c None = Unit {0}
Below c (Some g) = c < 2 ^ g.length

pub constant_there : (m : Machine) (k c : ℕ) (f : Field) → slice_get m.fields k ≡ Some f → c < 2 ^ f.length → PartFits m (Constant k c)
constant_there m k c f is fits = (ap is_there is, λ g same. subst (Below c) (sym is ∙ same) fits)

pub ruleset constant_fits = (common_steps, constant_there)

pub apart_from : (m : Machine) (ps : List Part) (i : ℕ) (d : Part) → i < length ps → PartFits m (get_or ps i d) → bit_and (covered_by m (get_or ps i d)) (covered_by_all m (drop (i + 1) ps)) ≡ 0
    → AreApart m (drop (i + 1) ps) → AreApart m (drop i ps)
apart_from m ps i d within fits apart rest =
    let next : suc i ≡ i + 1 = omega arith in
    let split : drop i ps ≡ get_or ps i d ∷ drop (i + 1) ps = drop-cons ps i d within ∙ ap (λ k. get_or ps i d ∷ drop k ps) next in
    subst (AreApart m) (sym split) (fits, apart, rest)

pub apart_past : (m : Machine) (ps : List Part) (i : ℕ) → length ps ≤ i → AreApart m (drop i ps)
apart_past m ps i past = subst (AreApart m) (sym (drop_all i ps past)) tt

pub ruleset apart_steps = (common_steps)

pub may_assert : (m : Machine) (ps : List Part) (r : Rtl) → MayAssert m ps r → MayAssert m ps r
may_assert m ps r h = h

pub ruleset assertion_laws = (common_steps)

pub ruleset assertion_there = (common_steps)

-- there are no more slots than parts that are slots
pub fewer_slots : (m : Machine) (ps : List Part) → length (slots_of m ps) ≤ length (slot_operands ps)
fewer_slots m [] = omega arith
fewer_slots m (Constant k c ∷ ps) = fewer_slots m ps
fewer_slots m (Slot k ∷ ps) = by (slice_get m.operands k) (fewer_slots m ps) where
  by : (o : Option Operand) → length (slots_of m ps) ≤ length (slot_operands ps) → length (elim o as (λ _. List Operand) [ None ↦ slots_of m ps | Some x ↦ x ∷ slots_of m ps ]) ≤ length (slot_operands (Slot k ∷ ps))
  by None h = omega (arith, h)
  by (Some x) h = omega (arith, h)

abbrev asked : Machine → Option Rtl → ℕ
asked m None = 0
asked m (Some rule) = named_bits m rule

pub asserts : (m : Machine) (i : Insn) (r : Rtl) → MayAssert m i.parts r → i.assertion ≡ Some r → IsAssertion m i r
asserts m i r h is = record { gives = h.gives; allowed = h.allowed; few = subst (λ n. count_ones n ≤ 8) (sym (ap (asked m) is)) h.few }

pub sound_insn : (m : Machine) (i : Insn) (ps : List Part) → ps ≡ i.parts → length_of m i ≤ 16 → AreApart m ps → length (slot_operands ps) ≤ 16 → ((r : Rtl) → i.assertion ≡ Some r → IsAssertion m i r) → SoundInsn m i
sound_insn m i ps same short parts slots assertion =
    let few : length (slots_of m ps) ≤ 16 = omega (arith, slots, fewer_slots m ps) in
    record { short = short; parts = subst (AreApart m) same parts; slots = subst (λ xs. length (slots_of m xs) ≤ 16) same few; assertion = assertion }

pub in_words : (m : Machine) → HasSoundElements m → AreInWords m
in_words m h = record { each = λ k f is. (each (SoundField m) m.fields k f h.fields is).placed }

pub sound_machine : (m : Machine) → HasSoundElements m → is_word m.word_bits ≡ true → SoundBase m.base_bits → length m.insns ≤ 4096 → Each (SoundInsn m) m.insns → IsSound m
sound_machine m h word base few insns = record {
  word = word;
  base = base;
  fields = λ k f is. each _ m.fields k f h.fields is;
  multis = λ k x is. each _ m.multis k x h.multis is;
  hardware = λ k x is. each _ m.hardware k x h.hardware is;
  operands = λ k o is. each _ m.operands k o h.operands is;
  few = few;
  insns = λ k i is. each _ m.insns k i insns is;
}

pub ruleset sound_laws = (common_steps, in_words, sound_machine)
