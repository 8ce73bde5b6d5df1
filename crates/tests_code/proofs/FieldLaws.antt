-- What the judge finds of fields, multi fields, hardware and operands.
use Rattle.std.proofs.Common.{◌≡◌, ℕ, zero, suc, ◌+◌, ◌%◌, ◌<◌, ◌≤◌, true, drop, get_or, length, List, [], ◌∷◌, Option, Some, None, slice_get, sym, ap, ◌∙◌, subst, arith}
use Rattle.std.proofs.lemmas.Grind.{common_steps}
use Rattle.std.proofs.Math.Seq.{drop-cons}
use Rattle.std.proofs.lemmas.List.{drop_all}
use Rattle.cg_base.specs.declared.Mode.{Mode}
use Rattle.cg_base.specs.Modes.{bits_of}
use Rattle.cg_model.specs.Covers.{IsInWord}
use Rattle.cg_model.specs.Sound.{of_value, of_fields, IsRule, SoundField, SoundMulti, SoundHardware, SoundOperand, SoundBase, AreInserts, are_fields, has_source, is_there}
use Rattle.cg_model.specs.declared.field.Field.{Field}
use Rattle.cg_model.specs.declared.field.Multi.{Multi}
use Rattle.cg_model.specs.declared.hardware.Hardware.{Hardware}
use Rattle.cg_model.specs.declared.machine.Machine.{Machine}
use Rattle.cg_model.specs.declared.operand.Operand.{Operand}
use Rattle.cg_model.specs.declared.rtl.Rtl.{Rtl}
use Rattle.tests_code.specs.Judged.{IsRuleWhere, Each}

pub in_word : (f : Field) → f.word_bits % 8 ≡ 0 → f.word_offset % 8 ≡ 0 → 8 ≤ f.word_bits → f.word_bits ≤ 64 → 1 ≤ f.length → f.shift + f.length ≤ f.word_bits → IsInWord f
in_word f whole start some few own within = record {
  bytes = omega (arith, whole);
  offset = omega (arith, start);
  some = some;
  few = few;
  own = own;
  within = within;
}

pub sound_field : (m : Machine) (f : Field) → IsInWord f → f.length ≤ bits_of f.mode → IsRuleWhere m f.mode (of_value f.mode) f.encode → IsRuleWhere m f.mode (of_value f.mode) f.decode → SoundField m f
sound_field m f placed fits encode decode = record { placed = placed; fits = fits; encode = encode; decode = decode }

pub sound_multi : (m : Machine) (x : Multi) (ks : List ℕ) (rs : List Rtl) → ks ≡ x.subs → rs ≡ x.insert → 1 ≤ bits_of x.mode → are_fields m ks ≡ true → AreInserts m x.mode ks rs → IsRule m x.mode (of_fields ks) x.extract → SoundMulti m x
sound_multi m x ks rs subs rules valued there insert extract = record {
  valued = valued;
  subs = sym (ap (are_fields m) subs) ∙ there;
  insert = subst (λ ls. AreInserts m x.mode ls x.insert) subs (subst (λ ys. AreInserts m x.mode ks ys) rules insert);
  extract = subst (λ ls. IsRule m x.mode (of_fields ls) x.extract) subs extract;
}

pub sound_hardware : (h : Hardware) → 1 ≤ bits_of h.mode → SoundHardware h
sound_hardware h valued = record { valued = valued }

pub sound_operand : (m : Machine) (o : Operand) → is_there (slice_get m.hardware o.hardware) ≡ true → has_source m o.source ≡ true → SoundOperand m o
sound_operand m o hardware source = record { hardware = hardware; source = source }

pub sound_base : (bits : ℕ) → bits % 8 ≡ 0 → 8 ≤ bits → bits ≤ 64 → SoundBase bits
sound_base bits whole some few = record { bytes = omega (arith, whole); some = some; few = few }

-- a rule for the field that is there
abbrev InsertHere : Machine → Mode → Rtl → Option Field → Type 0
InsertHere m own r None = Unit {0}
InsertHere m own r (Some f) = IsRule m f.mode (of_value own) r

pub insert_there : (m : Machine) (own : Mode) (r : Rtl) (f g : Field) → IsRule m f.mode (of_value own) r → Some f ≡ Some g → IsRule m g.mode (of_value own) r
insert_there m own r f g rule is = subst (InsertHere m own r) is rule

-- each of what is left, and so each of all
pub each_from : {A : Type 0} (P : A → Type 0) (xs : List A) (i : ℕ) (d : A) → i < length xs → P (get_or xs i d) → Each P (drop (i + 1) xs) → Each P (drop i xs)
each_from P xs i d within holds rest =
    let next : suc i ≡ i + 1 = omega arith in
    let split : drop i xs ≡ get_or xs i d ∷ drop (i + 1) xs = drop-cons xs i d within ∙ ap (λ k. get_or xs i d ∷ drop k xs) next in
    subst (Each P) (sym split) (holds, rest)

pub each_step : {A : Type 0} (P : A → Type 0) (xs : List A) (i : ℕ) (d x : A) → i < length xs → x ≡ get_or xs i d → P x → Each P (drop (i + 1) xs) → Each P (drop i xs)
each_step P xs i d x within is holds rest = each_from P xs i d within (subst P is holds) rest

pub each_past : {A : Type 0} (P : A → Type 0) (xs : List A) (i : ℕ) → length xs ≤ i → Each P (drop i xs)
each_past P xs i past = subst (Each P) (sym (drop_all i xs past)) tt

abbrev Given : {A : Type 0} → (A → Type 0) → Option A → Type 0
Given P None = Unit {0}
Given P (Some x) = P x

pub each : {A : Type 0} (P : A → Type 0) (xs : List A) (k : ℕ) (x : A) → Each P xs → slice_get xs k ≡ Some x → P x
each P [] k x holds is = subst (Given P) is tt
each P (y ∷ ys) zero x holds is = subst (Given P) is holds.0
each P (y ∷ ys) (suc k) x holds is = each P ys k x holds.1 is

pub inserts_from : (m : Machine) (own : Mode) (ks : List ℕ) (rs : List Rtl) (i d : ℕ) (e : Rtl) → i < length ks → i < length rs → ((f : Field) → slice_get m.fields (get_or ks i d) ≡ Some f → IsRule m f.mode (of_value own) (get_or rs i e))
    → AreInserts m own (drop (i + 1) ks) (drop (i + 1) rs) → AreInserts m own (drop i ks) (drop i rs)
inserts_from m own ks rs i d e within here rule rest =
    let next : suc i ≡ i + 1 = omega arith in
    let subs : drop i ks ≡ get_or ks i d ∷ drop (i + 1) ks = drop-cons ks i d within ∙ ap (λ k. get_or ks i d ∷ drop k ks) next in
    let rules : drop i rs ≡ get_or rs i e ∷ drop (i + 1) rs = drop-cons rs i e here ∙ ap (λ k. get_or rs i e ∷ drop k rs) next in
    subst (λ xs. AreInserts m own xs (drop i rs)) (sym subs) (subst (λ ys. AreInserts m own (get_or ks i d ∷ drop (i + 1) ks) ys) (sym rules) (rule, rest))

pub inserts_step : (m : Machine) (own : Mode) (ks : List ℕ) (rs : List Rtl) (i d : ℕ) (e r : Rtl) → i < length ks → i < length rs → r ≡ get_or rs i e → ((f : Field) → slice_get m.fields (get_or ks i d) ≡ Some f → IsRule m f.mode (of_value own) r)
    → AreInserts m own (drop (i + 1) ks) (drop (i + 1) rs) → AreInserts m own (drop i ks) (drop i rs)
inserts_step m own ks rs i d e r within here is rule rest = inserts_from m own ks rs i d e within here (λ f there. subst (IsRule m f.mode (of_value own)) is (rule f there)) rest

pub inserts_past : (m : Machine) (own : Mode) (ks : List ℕ) (rs : List Rtl) (i : ℕ) → length ks ≤ i → length rs ≤ i → AreInserts m own (drop i ks) (drop i rs)
inserts_past m own ks rs i past over = subst (λ xs. AreInserts m own xs (drop i rs)) (sym (drop_all i ks past)) (subst (λ ys. AreInserts m own [] ys) (sym (drop_all i rs over)) tt)

pub ruleset hardware_laws = (common_steps, sound_hardware)

pub ruleset operand_laws = (common_steps, sound_operand)

pub ruleset base_laws = (common_steps, sound_base)
