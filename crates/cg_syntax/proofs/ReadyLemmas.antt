-- What an accepted machine has that source is assembled for.
use Rattle.std.specs.Prelude.{ℕ, zero, suc, ◌+◌, ◌≤◌, Bool, true, false, not, ◌==◌, nat_lt, nat_le, List, [], ◌∷◌, ◌++◌, length, drop, Option, Some, None, slice_get}
use Rattle.std.proofs.Common.{◌≡◌, refl, ap, ◌∙◌, subst, arith}
use Rattle.std.proofs.lemmas.Bool.{both_ways, and_parts}
use Rattle.std.proofs.lemmas.Bool.Decides.{nat_tests}
use Rattle.cg_syntax_choose.proofs.FrontLemmas.{same_some, none_is_none}
use Rattle.cg_syntax_choose.specs.Indexing.{GivesAll}
use Rattle.cg_model.specs.declared.field.Field.{Field}
use Rattle.cg_model_faults.specs.declared.fault.Said.TheVariants as said
use Rattle.cg_model.specs.declared.insn.Given.{Given}
use Rattle.cg_model.specs.declared.insn.Insn.{Insn}
use Rattle.cg_model.specs.declared.insn.MacroInsn.{MacroInsn}
use Rattle.cg_model.specs.declared.machine.Machine.{Machine}
use Rattle.cg_model_faults.specs.Accepted.{IsAccepted}
use Rattle.cg_model_faults.specs.E306 as e306
use Rattle.cg_model_faults.specs.E308 as e308
use Rattle.cg_model_faults.specs.E312.{undelimited}
use Rattle.cg_model_faults.specs.E313.{slot_operands, written_twice, unmatched, ungiven_from, ungiven, unused}
use Rattle.cg_model_faults.specs.E316.{is_bundle_bit, no_bundle_bit}
use Rattle.cg_model_faults.specs.Elements.{of_bundle, emitted, macro_syntax, of_macro, of_texts}
use Rattle.cg_model_faults.specs.Finding.{Faults, where_so, where_none, at_place}
use Rattle.cg_model_faults.specs.Refusing.{first_refusal, by_data, by_modes, of_fields, of_multis, of_all_hardware, of_operands, of_insns, of_macros, spent_on_fields, spent_on_multis, spent_on_hardware}
use Rattle.cg_model_laws.proofs.Clear.{Each, each, AllClear, clear, clear_front, all_clear, AreNone, all_none, front_none, back_none, later_none, test_false, not_true}
use Rattle.cg_syntax.specs.Laying.{HasBundleBit}

is_none : {A : Type 0} → List A → Bool
is_none [] = true
is_none (x ∷ xs) = false

none_cons : {A : Type 0} {x : A} {xs : List A} → (x ∷ xs) ≡ [] → ⊥
unfolding is_none
none_cons e = both_ways false refl (ap is_none e)

none_some : {A : Type 0} {x : A} → (let none : Option A = None in none) ≡ Some x → ⊥
none_some e = none_is_none e

data_clear : (m : Machine) → first_refusal m ≡ None →
    Each AllClear ((([], of_bundle m) ∷ of_fields m 0 0 m.fields) ∷ of_multis m 0 (spent_on_fields m) m.multis ∷ of_all_hardware m 0 0 (spent_on_multis m) m.hardware ∷ of_operands m 0 m.operands ∷ of_insns m 0 (spent_on_hardware m) m.insns ∷ of_macros m 0 m.macros ∷ (([], of_texts m) ∷ []) ∷ [])
data_clear m none =
    all_clear (([], of_bundle m) ∷ of_fields m 0 0 m.fields) (of_multis m 0 (spent_on_fields m) m.multis ∷ of_all_hardware m 0 0 (spent_on_multis m) m.hardware ∷ of_operands m 0 m.operands ∷ of_insns m 0 (spent_on_hardware m) m.insns ∷ of_macros m 0 m.macros ∷ (([], of_texts m) ∷ []) ∷ [])
    (clear_front (by_data m) (by_modes m) (clear m (by_data m ++ by_modes m) none))

-- The bundle field.
bit_by : (m : Machine) (f : Option Field) (k : ℕ) → elim f as (λ x. Faults) [ None ↦ [] | Some g ↦ where_so (not (is_bundle_bit m g)) (at_place 316 0 (said.Field k) said.Nothing) ] ≡ [] → (g : Field) → f ≡ Some g → is_bundle_bit m g ≡ true
bit_by m None k none g e = absurd (none_some e)
bit_by m (Some f) k none g e = subst (λ x. is_bundle_bit m x ≡ true) (same_some e) (not_true (is_bundle_bit m f) (at_place 316 0 (said.Field k) said.Nothing) none)

bit_of : (m : Machine) (b : Option ℕ) → elim b as (λ x. Faults) [ None ↦ [] | Some k ↦ elim (slice_get m.fields k) as (λ x. Faults) [ None ↦ [] | Some f ↦ where_so (not (is_bundle_bit m f)) (at_place 316 0 (said.Field k) said.Nothing) ] ] ≡ [] →
    (k : ℕ) (f : Field) → b ≡ Some k → slice_get m.fields k ≡ Some f → is_bundle_bit m f ≡ true
bit_of m None none k f b here = absurd (none_some b)
bit_of m (Some j) none k f b here = bit_by m (slice_get m.fields j) j none f (ap (slice_get m.fields) (same_some b) ∙ here)

one_bit : (n : ℕ) → (n == 1) ≡ true → n ≡ 1
one_bit n e = grind (arith, nat_tests, e)

fits_base : (a b : ℕ) → nat_le a b ≡ true → a ≤ b
fits_base a b e = grind (arith, nat_tests, e)

has_bit : (m : Machine) → no_bundle_bit m ≡ [] → HasBundleBit m
has_bit m none k f b here =
    let both = and_parts (f.length == 1) (nat_le (f.word_offset + f.word_bits) m.base_bits) (bit_of m m.bundle none k f b here) in
    (one_bit f.length both.0, fits_base (f.word_offset + f.word_bits) m.base_bits both.1)

-- What macro instructions give.
none_dropped : (place : ℕ) (os : List ℕ) → ungiven_from place os ≡ [] → os ≡ []
none_dropped place [] e = refl
none_dropped place (o ∷ os) e = absurd (none_cons e)

all_dropped : (n : ℕ) (os : List ℕ) → drop n os ≡ [] → length os ≤ n
all_dropped n [] e = omega arith
all_dropped zero (o ∷ os) e = absurd (none_cons e)
all_dropped (suc n) (o ∷ os) e = omega (arith, all_dropped n os e)

not_fewer : (a b : ℕ) → nat_lt a b ≡ false → b ≤ a
not_fewer a b e = grind (arith, nat_tests, e)

as_many : (gs : List Given) (slots : List ℕ) → ungiven gs slots ≡ [] → length gs ≡ length slots
as_many gs slots none =
    let few : length slots ≤ length gs = all_dropped (length gs) slots (none_dropped (length gs) (drop (length gs) slots) (front_none (ungiven_from (length gs) (drop (length gs) slots)) _ none)) in
    let enough : length gs ≤ length slots = not_fewer (length slots) (length gs) (test_false (nat_lt (length slots) (length gs)) _ (back_none (ungiven_from (length gs) (drop (length gs) slots)) _ none)) in
    omega (arith, few, enough)

pub record MacroClear (m : Machine) (x : MacroInsn) : Type 0 where
  pub before : ℕ
  pub none : of_macro m before x ≡ []

macros_clear : (m : Machine) (before : ℕ) (xs : List MacroInsn) → AllClear (of_macros m before xs) → Each (MacroClear m) xs
macros_clear m before [] h = tt
macros_clear m before (x ∷ xs) h = (record { before = before; none = h.0 }, macros_clear m (suc before) xs h.1)

syntax_none : (m : Machine) (before : ℕ) (x : MacroInsn) → of_macro m before x ≡ [] → macro_syntax m x ≡ []
syntax_none m before x none =
    let parts : AreNone (e306.of_macro m x ∷ e308.of_macro before x ∷ where_none (e306.of_macro m x) (macro_syntax m x) ∷ []) = all_none (e306.of_macro m x) (e308.of_macro before x ∷ where_none (e306.of_macro m x) (macro_syntax m x) ∷ []) none in
    later_none (e306.of_macro m x) (macro_syntax m x) parts.0 parts.1.1.0

given_none : (m : Machine) (x : MacroInsn) → macro_syntax m x ≡ [] → ungiven x.given (emitted m x) ≡ []
given_none m x none =
    let parts : AreNone (e308.of_syntax (length x.pieces) (length x.operands) ∷ undelimited m x.operands x.pieces ∷ written_twice x.operands x.pieces ∷ unmatched x.pieces x.operands ∷ ungiven x.given (emitted m x) ∷ unused x.given x.operands ∷ []) =
    all_none (e308.of_syntax (length x.pieces) (length x.operands)) (undelimited m x.operands x.pieces ∷ written_twice x.operands x.pieces ∷ unmatched x.pieces x.operands ∷ ungiven x.given (emitted m x) ∷ unused x.given x.operands ∷ []) none in
    parts.1.1.1.1.0

emits : (m : Machine) (x : MacroInsn) (i : Insn) → slice_get m.insns x.target ≡ Some i → emitted m x ≡ slot_operands i.parts
emits m x i at = ap (λ o. elim o as (λ y. List ℕ) [ None ↦ [] | Some j ↦ slot_operands j.parts ]) at

gives : (m : Machine) → Each (MacroClear m) m.macros → GivesAll m
gives m clear_macros k x i here at =
    let one : MacroClear m x = each (MacroClear m) m.macros k x clear_macros here in
    as_many x.given (emitted m x) (given_none m x (syntax_none m one.before x one.none)) ∙ ap length (emits m x i at)

pub gives_all : (m : Machine) → IsAccepted m → GivesAll m
gives_all m accepted = gives m (macros_clear m 0 m.macros (data_clear m accepted.faultless.elements).1.1.1.1.1.0)

pub bundle_bit : (m : Machine) → IsAccepted m → HasBundleBit m
bundle_bit m accepted =
    let own : of_bundle m ≡ [] = (data_clear m accepted.faultless.elements).0.0 in
    has_bit m (back_none (e306.no_bundle m ++ e308.long_text m.name) (no_bundle_bit m) own)

pub ruleset ready = (gives_all, bundle_bit)
