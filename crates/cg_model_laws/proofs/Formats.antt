-- Instructions that nothing is wrong with.
use Rattle.std.proofs.Common.{◌≡◌, ℕ, suc, ◌+◌, ◌^◌, ◌<◌, ◌≤◌, true, false, not, ◌&&◌, nat_le, nat_lt, bit_and, count_ones, List, [], ◌∷◌, ◌++◌, length, Option, Some, None, slice_get, sym, ap, ◌∙◌, refl, subst, arith}
use Rattle.std.proofs.lemmas.Bool.{false≢true}
use Rattle.std.proofs.lemmas.Bool.Decides.{nat_tests}
use Rattle.cg_model.specs.Covers.{AreInWords, fields_cover, covered_by, covered_by_all, named_bits}
use Rattle.cg_model.specs.Matching.{fields_of_part, fields_of_parts, last_end, length_of}
use Rattle.cg_model.specs.Slots.{slots_of}
use Rattle.cg_model.specs.Sound.{PartFits, AreApart, IsAssertion, SoundInsn}
use Rattle.cg_model_faults.specs.declared.fault.Purpose.TheVariants as purpose
use Rattle.cg_model.specs.declared.field.Field.{Field}
use Rattle.cg_model.specs.declared.insn.Insn.{Insn}
use Rattle.cg_model.specs.declared.insn.Part.{Part}
use Rattle.cg_model.specs.declared.insn.Part.TheVariants.{Constant, Slot}
use Rattle.cg_model.specs.declared.machine.Machine.{Machine}
use Rattle.cg_model.specs.declared.operand.Operand.{Operand}
use Rattle.cg_model.specs.declared.rtl.Rtl.{Rtl}
use Rattle.cg_model_faults.specs.E306 as e306
use Rattle.cg_model_faults.specs.E308 as e308
use Rattle.cg_model_faults.specs.E310.{first_two, overlap_at, overlaps_with, overlaps_from, overlaps}
use Rattle.cg_model_faults.specs.E311.{unfit_at, unfit_from, unfit_constants}
use Rattle.cg_model_faults.specs.E312.{undelimited}
use Rattle.cg_model_faults.specs.E313.{slot_operands, written_twice, unmatched}
use Rattle.cg_model_faults.specs.E315.{bits_named, names_many}
use Rattle.cg_model_faults.specs.E316.{bundled}
use Rattle.cg_model_faults.specs.E317.{too_many_insns}
use Rattle.cg_model_faults.specs.Elements.{names_of, purity_of, where_there, insn_cells, insn_shape, insn_names, insn_format, judged_where, insn_judged, insn_modes}
use Rattle.cg_model_faults.specs.Finding.{Faults, where_so, where_none, at_place}
use Rattle.cg_model_faults.specs.declared.fault.Said.TheVariants as said
use Rattle.cg_code_mask.proofs.Within.{last_within}
use Rattle.cg_model_laws.proofs.Clear.{AreNone, all_none, front_none, back_none, test_false, not_true, later_none, InsnClear}
use Rattle.cg_model_laws.proofs.Nodes.{there, of_not}
use Rattle.cg_model_laws.proofs.Rules.{JudgedClear, judged_clear, each_front, each_back, judged_one, there_none, Asserting, assertion_rule}
use Rattle.cg_model_laws.proofs.Bits.{Covering, covering, all_apart, apart_from_both, named_same}

-- a limit that isn't passed
within_limit : (limit n : ℕ) → e308.too_many limit n ≡ [] → n ≤ limit
within_limit limit n h =
    let least : nat_le 0 limit ≡ true = grind (arith, nat_tests) in
    let same : nat_lt limit n ≡ (nat_le 0 limit && nat_lt limit n) = sym (ap (λ b. b && nat_lt limit n) least) in
    let no : nat_lt limit n ≡ false = same ∙ test_false (nat_le 0 limit && nat_lt limit n) _ h in
    grind (arith, nat_tests)

-- a constant fits the field that it names
abbrev unfit_where : ℕ → ℕ → ℕ → Option Field → Faults
unfit_where at k c None = []
unfit_where at k c (Some f) = where_so (not (nat_lt c (2 ^ f.length))) (at_place 311 at (said.Field k) (said.Count c))

fits_field : (at k c : ℕ) (o : Option Field) (f : Field) → unfit_where at k c o ≡ [] → o ≡ Some f → c < 2 ^ f.length
fits_field at k c o f h is =
    let below : nat_lt c (2 ^ f.length) ≡ true = not_true (nat_lt c (2 ^ f.length)) _ (sym (ap (unfit_where at k c) is) ∙ h) in
    grind (arith, nat_tests)

part_fits : (m : Machine) (place at : ℕ) (p : Part) → e306.no_part m place p ≡ [] → unfit_at m at p ≡ [] → PartFits m p
part_fits m place at (Slot o) h fits = there m.operands o (not_true (nat_lt o (length m.operands)) _ h)
part_fits m place at (Constant k c) h fits = (there m.fields k (not_true (nat_lt k (length m.fields)) _ h), λ f is. fits_field at k c (slice_get m.fields k) f fits is)

-- no part covers a bit that one behind it does
pub covering_front : (m : Machine) (js ks : List ℕ) → Covering m (js ++ ks) → Covering m js
covering_front m js ks h = each_front _ js ks h

pub covering_back : (m : Machine) (js ks : List ℕ) → Covering m (js ++ ks) → Covering m ks
covering_back m js ks h = each_back _ js ks h

not_two : (place : ℕ) (o : Option (ℕ × ℕ)) → overlap_at place o ≡ [] → o ≡ None
not_two place None h = refl
not_two place (Some two) h = absurd (false≢true (sym (test_false true _ h)))

apart_behind : (m : Machine) (place : ℕ) (js : List ℕ) (ps : List Part) → Covering m js → Covering m (fields_of_parts m ps) → overlaps_with m place js ps ≡ [] → bit_and (fields_cover m js) (covered_by_all m ps) ≡ 0
apart_behind m place js [] own covers h = all_apart m js [] own tt (none js) where
  none : (ks : List ℕ) → first_two m ks [] ≡ None
  none [] = refl
  none (k ∷ ks) = none ks
apart_behind m place js (p ∷ ps) own covers h =
    apart_from_both (fields_cover m js) (covered_by m p) (covered_by_all m ps)
    (all_apart m js (fields_of_part m p) own (covering_front m (fields_of_part m p) (fields_of_parts m ps) covers) (not_two place (first_two m js (fields_of_part m p)) (front_none (overlap_at place (first_two m js (fields_of_part m p))) _ h)))
    (apart_behind m place js ps own (covering_back m (fields_of_part m p) (fields_of_parts m ps) covers) (back_none (overlap_at place (first_two m js (fields_of_part m p))) _ h))

pub are_apart : (m : Machine) (one two three : ℕ) (ps : List Part) → Covering m (fields_of_parts m ps) → e306.no_parts m one ps ≡ [] → unfit_from m two ps ≡ [] → overlaps_from m three ps ≡ [] → AreApart m ps
are_apart m one two three [] covers named fit apart = tt
are_apart m one two three (p ∷ ps) covers named fit apart = (
  part_fits m one two p (front_none (e306.no_part m one p) _ named) (front_none (unfit_at m two p) _ fit),
  apart_behind m three (fields_of_part m p) ps (covering_front m (fields_of_part m p) (fields_of_parts m ps) covers) (covering_back m (fields_of_part m p) (fields_of_parts m ps) covers) (front_none (overlaps_with m three (fields_of_part m p) ps) _ apart),
  are_apart m (one + 1) (suc two) (suc three) ps (covering_back m (fields_of_part m p) (fields_of_parts m ps) covers) (back_none (e306.no_part m one p) _ named) (back_none (unfit_at m two p) _ fit) (back_none (overlaps_with m three (fields_of_part m p) ps) _ apart),
)

-- there are no more slots than parts that are slots
fewer_slots : (m : Machine) (ps : List Part) → length (slots_of m ps) ≤ length (slot_operands ps)
fewer_slots m [] = omega arith
fewer_slots m (Constant k c ∷ ps) = fewer_slots m ps
fewer_slots m (Slot k ∷ ps) = by (slice_get m.operands k) (fewer_slots m ps) where
  by : (o : Option Operand) → length (slots_of m ps) ≤ length (slot_operands ps) → length (elim o as (λ _. List Operand) [ None ↦ slots_of m ps | Some x ↦ x ∷ slots_of m ps ]) ≤ length (slot_operands (Slot k ∷ ps))
  by None h = omega (arith, h)
  by (Some x) h = omega (arith, h)

-- what is known of an instruction
record InsnParts (m : Machine) (i : Insn) : Type 0 where
  named : e306.no_parts m 0 i.parts ≡ []
  names : where_there (names_of m (e306.in_assertion m i.parts)) i.assertion ≡ []
  slots : e308.of_syntax (length i.pieces) (length (slot_operands i.parts)) ≡ []
  short : e308.too_many 16 (length_of m i) ≡ []
  apart : overlaps m i.parts ≡ []
  fit : unfit_constants m i.parts ≡ []
  pure : where_there (purity_of m purpose.Assertion []) i.assertion ≡ []

insn_parts : (m : Machine) (i : Insn) → InsnClear m i → InsnParts m i
insn_parts m i x =
    let none : AreNone (where_none (insn_shape m i) (insn_cells m i) ∷ insn_shape m i ∷ where_none (insn_shape m i) (insn_names m i) ∷ e308.of_insn x.spent i ∷ where_none (insn_shape m i) (insn_format m i) ∷ too_many_insns x.before ∷ []) = all_none (where_none (insn_shape m i) (insn_cells m i)) (insn_shape m i ∷ where_none (insn_shape m i) (insn_names m i) ∷ e308.of_insn x.spent i ∷ where_none (insn_shape m i) (insn_format m i) ∷ too_many_insns x.before ∷ []) x.none in
    let shape : insn_shape m i ≡ [] = none.1.0 in
    let names : insn_names m i ≡ [] = later_none (insn_shape m i) (insn_names m i) shape none.1.1.0 in
    let format : insn_format m i ≡ [] = later_none (insn_shape m i) (insn_format m i) shape none.1.1.1.1.0 in
    let formats : AreNone (e308.of_shape m i ∷ overlaps m i.parts ∷ unfit_constants m i.parts ∷ undelimited m (slot_operands i.parts) i.pieces ∷ written_twice (slot_operands i.parts) i.pieces ∷ unmatched i.pieces (slot_operands i.parts) ∷ where_there (purity_of m purpose.Assertion []) i.assertion ∷ bundled m i.parts ∷ []) = all_none (e308.of_shape m i) (overlaps m i.parts ∷ unfit_constants m i.parts ∷ undelimited m (slot_operands i.parts) i.pieces ∷ written_twice (slot_operands i.parts) i.pieces ∷ unmatched i.pieces (slot_operands i.parts) ∷ where_there (purity_of m purpose.Assertion []) i.assertion ∷ bundled m i.parts ∷ []) format in
    let counts : AreNone (e308.of_syntax (length i.pieces) (length (slot_operands i.parts)) ∷ e308.too_many 16 (length_of m i) ∷ e308.too_many 67107840 i.cycles ∷ []) = all_none (e308.of_syntax (length i.pieces) (length (slot_operands i.parts))) (e308.too_many 16 (length_of m i) ∷ e308.too_many 67107840 i.cycles ∷ []) formats.0 in
    record {
      named = back_none (e306.no_slots (length (slot_operands i.parts)) 0 i.pieces) (e306.no_parts m 0 i.parts) shape;
      names = front_none (where_there (names_of m (e306.in_assertion m i.parts)) i.assertion) (names_of m (e306.in_semantics m i.parts) i.semantics) names;
      slots = counts.0;
      short = counts.1.0;
      apart = formats.1.0;
      fit = formats.1.1.0;
      pure = formats.1.1.1.1.1.1.0;
    }

abbrev asked : Machine → Option Rtl → ℕ
asked m None = 0
asked m (Some rule) = named_bits m rule

few_named : (m : Machine) (r : Rtl) → AreInWords m → names_many m purpose.Assertion r ≡ false → count_ones (named_bits m r) ≤ 8
unfolding names_many
few_named m r words h =
    let test : nat_le (count_ones (bits_named m r)) 8 ≡ true = of_not (nat_le (count_ones (bits_named m r)) 8) h in
    let few : count_ones (bits_named m r) ≤ 8 = grind (arith, nat_tests) in
    subst (λ n. count_ones n ≤ 8) (named_same m words r) few

is_assertion : (m : Machine) (i : Insn) (r : Rtl) → AreInWords m → i.assertion ≡ Some r → Asserting m (e306.in_assertion m i.parts) r → IsAssertion m i r
is_assertion m i r words is a = record {
  gives = a.gives;
  allowed = a.allowed;
  few = subst (λ n. count_ones n ≤ 8) (sym (ap (asked m) is)) (few_named m r words a.few);
}

asserting : (m : Machine) (i : Insn) (r : Rtl) → i.assertion ≡ Some r → InsnParts m i → insn_modes m i ≡ [] → Asserting m (e306.in_assertion m i.parts) r
asserting m i r is parts modes =
    let may = e306.in_assertion m i.parts in
    let judged = judged_clear m (insn_judged i) modes in
    let names : names_of m may r ≡ [] = there_none (names_of m may) i.assertion r is parts.names in
    let named : e306.unnamed m r ≡ [] = front_none (e306.unnamed m r) _ names in
    let strays : e306.strays m may r ≡ [] = later_none (e306.unnamed m r) (e306.strays m may r) named (back_none (e306.unnamed m r) _ names) in
    assertion_rule m may None r named
    (there_none (purity_of m purpose.Assertion []) i.assertion r is parts.pure)
    strays
    (judged_one m purpose.Assertion None None i.assertion r is (each_front (JudgedClear m) (judged_where purpose.Assertion None None i.assertion) (judged_where purpose.Semantics None None (Some i.semantics)) judged))

pub sound_insn : (m : Machine) (i : Insn) → AreInWords m → InsnClear m i → insn_modes m i ≡ [] → SoundInsn m i
sound_insn m i words clear modes =
    let parts = insn_parts m i clear in
    let short : length_of m i ≤ 16 = within_limit 16 (length_of m i) parts.short in
    let near : last_end m (fields_of_parts m i.parts) ≤ 128 = omega (arith, short, last_within m i words) in
    let syntax_slots : length (slot_operands i.parts) ≤ 16 = within_limit 16 (length (slot_operands i.parts)) (back_none (e308.too_many 64 (length i.pieces)) _ parts.slots) in
    record {
      short = short;
      parts = are_apart m 0 0 0 i.parts (covering m words (fields_of_parts m i.parts) near) parts.named parts.fit parts.apart;
      slots = omega (arith, syntax_slots, fewer_slots m i.parts);
      assertion = λ r is. is_assertion m i r words is (asserting m i r is parts modes);
    }
