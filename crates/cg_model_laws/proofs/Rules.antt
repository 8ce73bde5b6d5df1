-- Rules and assertions that nothing is wrong with.
use Rattle.std.proofs.Common.{◌≡◌, ℕ, ◌≤◌, Bool, true, false, ◌==◌, if◌then◌else◌, List, [], ◌∷◌, ◌++◌, Option, Some, None, Ok, Err, sym, ap, ◌∙◌, refl, subst, arith}
use Rattle.std.proofs.lemmas.Bool.{false≢true, eqb-true}
use Rattle.std.proofs.lemmas.Bool.Decides.{nat_tests}
use Rattle.cg_base.specs.Modes.{bits_of}
use Rattle.cg_base.specs.declared.mode.Mode.{Mode}
use Rattle.cg_model.specs.Checked.{Verdict, mode_of}
use Rattle.cg_model.specs.Pure.{is_pure, is_pure_op}
use Rattle.cg_model.specs.Sound.{Allowed, is_allowed, of_value, of_fields, of_format, Gives, IsRule}
use Rattle.cg_model_faults.specs.declared.fault.MachineFault.{MachineFault}
use Rattle.cg_model_faults.specs.declared.fault.Purpose.{Purpose}
use Rattle.cg_model_faults.specs.declared.fault.Purpose.TheVariants as purpose
use Rattle.cg_model_faults.specs.declared.fault.Said.TheVariants as said
use Rattle.cg_model.specs.declared.machine.Machine.{Machine}
use Rattle.cg_model.specs.declared.rtl.Op.{Op}
use Rattle.cg_model.specs.declared.rtl.Rtl.{Rtl}
use Rattle.cg_model_faults.specs.E306.{Nameable, unnamed, stray_at}
use Rattle.cg_model_faults.specs.E315.{names_field, may_not_name, impure_at, names_many, impure}
use Rattle.cg_model_faults.specs.Elements.{where_there, purity_of, judged_where}
use Rattle.cg_model_faults.specs.Finding.{Faults, AtNode, in_nodes, at_place}
use Rattle.cg_model_faults.specs.Judging.{Judged, has_index, has_new_value, outside_at, outside_rules, other_at, is_free, disagrees, result_faults, verdict_faults, mode_faults, all_outside, all_modes, judged_faults}
use Rattle.cg_model_laws.proofs.Clear.{Each, front_none, back_none, test_false, not_true, later_none}
use Rattle.cg_model_laws.proofs.Nodes.{Clear, all_right, pure_allowed, declares_none, pure_node, value_node, fields_node, format_node}

-- an expression that has no fault by its modes
pub record JudgedClear (m : Machine) (j : Judged) : Type 0 where
  pub outside : in_nodes (outside_at j.purpose) j.rtl ≡ []
  pub others : in_nodes (other_at j.own) j.rtl ≡ []
  pub verdict : verdict_faults j (mode_of m j.rtl j.want) ≡ []

each_judged : (m : Machine) (js : List Judged) → all_outside js ≡ [] → all_modes m js ≡ [] → Each (JudgedClear m) js
each_judged m [] h k = tt
each_judged m (j ∷ js) h k =
    let own : mode_faults m j ≡ [] = front_none (mode_faults m j) _ k in
    (record { outside = front_none (outside_rules j.purpose j.rtl) _ h; others = front_none _ _ own; verdict = back_none _ _ own }, each_judged m js (back_none (outside_rules j.purpose j.rtl) _ h) (back_none (mode_faults m j) _ k))

pub judged_clear : (m : Machine) (js : List Judged) → judged_faults m js ≡ [] → Each (JudgedClear m) js
judged_clear m js h = each_judged m js (front_none (all_outside js) _ h) (back_none (all_outside js) _ h)

pub each_front : {A : Type 0} (P : A → Type 0) (xs ys : List A) → Each P (xs ++ ys) → Each P xs
each_front P [] ys h = tt
each_front P (x ∷ xs) ys h = (h.0, each_front P xs ys h.1)

pub each_back : {A : Type 0} (P : A → Type 0) (xs ys : List A) → Each P (xs ++ ys) → Each P ys
each_back P [] ys h = h
each_back P (x ∷ xs) ys h = each_back P xs ys h.1

pub judged_one : (m : Machine) (p : Purpose) (want own : Option Mode) (o : Option Rtl) (r : Rtl) → o ≡ Some r → Each (JudgedClear m) (judged_where p want own o) → JudgedClear m (record { purpose = p; rtl = r; want = want; own = own })
judged_one m p want own o r is h = (subst (λ x. Each (JudgedClear m) (judged_where p want own x)) is h).0

pub there_none : (g : Rtl → Faults) (o : Option Rtl) (r : Rtl) → o ≡ Some r → where_there g o ≡ [] → g r ≡ []
there_none g o r is h = sym (ap (where_there g) is) ∙ h

-- it has a mode of some bits, and that which is wanted
record Moded (j : Judged) (v : Verdict) : Type 0 where
  mode : Mode
  is : v ≡ Ok mode
  valued : 1 ≤ bits_of mode
  agrees : disagrees j.want mode ≡ []

record Branches (b : Bool) (xs : Faults) : Type 0 where
  not_so : b ≡ false
  none : xs ≡ []

branches : (b : Bool) (f : MachineFault) (xs : Faults) → (if b then f ∷ [] else xs) ≡ [] → Branches b xs
branches false f xs h = record { not_so = refl; none = h }
branches true f xs h = absurd (false≢true (sym (test_false true f h)))

abbrev no_value : MachineFault
no_value = at_place 404 0 said.Own said.Nothing

result_clear : (j : Judged) (k : Mode) → is_free j.purpose ≡ false → result_faults j k ≡ [] → Moded j (Ok k)
result_clear j k bound h =
    let inner : (if bits_of k == 0 then no_value ∷ [] else disagrees j.want k) ≡ [] = subst (λ b. (if b then [] else (if bits_of k == 0 then no_value ∷ [] else disagrees j.want k)) ≡ []) bound h in
    let x : Branches (bits_of k == 0) (disagrees j.want k) = branches (bits_of k == 0) no_value (disagrees j.want k) inner in
    let no : (bits_of k == 0) ≡ false = x.not_so in
    record { mode = k; is = refl; valued = grind (arith, nat_tests); agrees = x.none }

moded : (j : Judged) (v : Verdict) → is_free j.purpose ≡ false → verdict_faults j v ≡ [] → Moded j v
moded j (Ok k) bound h = result_clear j k bound h
moded j (Err e) bound h = absurd (false≢true (sym (test_false true _ h)))

gives_of : (m : Machine) (j : Judged) → is_pure j.rtl ≡ true → Moded j (mode_of m j.rtl j.want) → Gives m j.want j.rtl
gives_of m j pure x = record { pure = pure; mode = x.mode; moded = x.is; valued = x.valued }

rule_of : (m : Machine) (j : Judged) (want : Mode) (ok : Allowed) → j.want ≡ Some want → is_free j.purpose ≡ false → is_pure j.rtl ≡ true → is_allowed ok j.rtl ≡ true → JudgedClear m j → IsRule m want ok j.rtl
rule_of m j want ok wanted bound pure allowed c =
    let x : Moded j (mode_of m j.rtl j.want) = moded j (mode_of m j.rtl j.want) bound c.verdict in
    let agrees : disagrees (Some want) x.mode ≡ [] = subst (λ w. disagrees w x.mode ≡ []) wanted x.agrees in
    let is : mode_of m j.rtl (Some want) ≡ Ok x.mode = sym (ap (mode_of m j.rtl) wanted) ∙ x.is in
    record {
      gives = record { pure = pure; mode = x.mode; moded = is; valued = x.valued };
      same = eqb-true (bits_of x.mode) (bits_of want) (not_true (bits_of x.mode == bits_of want) _ agrees);
      allowed = allowed;
    }

-- no node of it has a fault
pure_of : (m : Machine) (p : Purpose) (subs : List ℕ) (c d : AtNode) (r : Rtl) → has_index p ≡ false → has_new_value p ≡ false → Clear m (impure_at m p subs) (outside_at p) c d r → is_pure r ≡ true
pure_of m p subs c d r no_index no_new x =
    sym (pure_allowed r) ∙ all_right m (impure_at m p subs) (outside_at p) c d (λ o mode n. is_pure_op o n) (declares_none m p subs) (pure_node m p subs c d no_index no_new) r x

clear_of : (m : Machine) (p : Purpose) (subs : List ℕ) (c d : AtNode) (r : Rtl) → unnamed m r ≡ [] → purity_of m p subs r ≡ [] → in_nodes (outside_at p) r ≡ [] → in_nodes c r ≡ [] → in_nodes d r ≡ [] → Clear m (impure_at m p subs) (outside_at p) c d r
clear_of m p subs c d r named pure outside third fourth = record {
  first = front_none (in_nodes (impure_at m p subs) r) _ (later_none (unnamed m r) (impure m p subs r) named pure);
  second = outside;
  third = third;
  fourth = fourth;
  named = named;
}

-- a rule of one value
pub record OfValue (p : Purpose) : Type 0 where
  pub fields : (m : Machine) (subs : List ℕ) (o : Op) (n : _) → may_not_name m p subs o n ≡ names_field o n
  pub no_index : has_index p ≡ false
  pub no_new : has_new_value p ≡ false
  pub bound : is_free p ≡ false

pub encodes : OfValue purpose.Encode
unfolding may_not_name has_index has_new_value is_free
encodes = record { fields = λ m subs o n. refl; no_index = refl; no_new = refl; bound = refl }

pub decodes : OfValue purpose.Decode
unfolding may_not_name has_index has_new_value is_free
decodes = record { fields = λ m subs o n. refl; no_index = refl; no_new = refl; bound = refl }

pub inserts : OfValue purpose.Insert
unfolding may_not_name has_index has_new_value is_free
inserts = record { fields = λ m subs o n. refl; no_index = refl; no_new = refl; bound = refl }

pub value_rule : (m : Machine) (p : Purpose) (w : Option Mode) (want own : Mode) (r : Rtl) → OfValue p → w ≡ Some want → unnamed m r ≡ [] → purity_of m p [] r ≡ [] → JudgedClear m (record { purpose = p; rtl = r; want = w; own = Some own }) → IsRule m want (of_value own) r
value_rule m p w want own r x wanted named pure c =
    let y : Clear m (impure_at m p []) (outside_at p) (other_at (Some own)) (other_at (Some own)) r = clear_of m p [] (other_at (Some own)) (other_at (Some own)) r named pure c.outside c.others c.others in
    rule_of m (record { purpose = p; rtl = r; want = w; own = Some own }) want (of_value own) wanted x.bound (pure_of m p [] (other_at (Some own)) (other_at (Some own)) r x.no_index x.no_new y)
    (all_right m (impure_at m p []) (outside_at p) (other_at (Some own)) (other_at (Some own)) (of_value own) (declares_none m p []) (value_node m p [] own (other_at (Some own)) (x.fields m [])) r y) c

-- a rule of fields
pub fields_rule : (m : Machine) (ks : List ℕ) (want : Mode) (own : Option Mode) (r : Rtl) → unnamed m r ≡ [] → purity_of m purpose.Extract ks r ≡ [] → JudgedClear m (record { purpose = purpose.Extract; rtl = r; want = Some want; own = own }) → IsRule m want (of_fields ks) r
unfolding has_index has_new_value is_free
fields_rule m ks want own r named pure c =
    let y : Clear m (impure_at m purpose.Extract ks) (outside_at purpose.Extract) (other_at own) (other_at own) r = clear_of m purpose.Extract ks (other_at own) (other_at own) r named pure c.outside c.others c.others in
    rule_of m (record { purpose = purpose.Extract; rtl = r; want = Some want; own = own }) want (of_fields ks) refl refl (pure_of m purpose.Extract ks (other_at own) (other_at own) r refl refl y)
    (all_right m (impure_at m purpose.Extract ks) (outside_at purpose.Extract) (other_at own) (other_at own) (of_fields ks) (declares_none m purpose.Extract ks) (fields_node m ks (other_at own) (other_at own)) r y) c

-- an assertion
pub record Asserting (m : Machine) (may : Nameable) (r : Rtl) : Type 0 where
  pub gives : Gives m None r
  pub allowed : is_allowed (of_format m may.fields) r ≡ true
  pub few : names_many m purpose.Assertion r ≡ false

pub assertion_rule : (m : Machine) (may : Nameable) (own : Option Mode) (r : Rtl) → unnamed m r ≡ [] → purity_of m purpose.Assertion [] r ≡ [] → in_nodes (stray_at m may) r ≡ [] → JudgedClear m (record { purpose = purpose.Assertion; rtl = r; want = None; own = own }) → Asserting m may r
unfolding has_index has_new_value is_free
assertion_rule m may own r named pure strays c =
    let j : Judged = record { purpose = purpose.Assertion; rtl = r; want = None; own = own } in
    let y : Clear m (impure_at m purpose.Assertion []) (outside_at purpose.Assertion) (other_at own) (stray_at m may) r = clear_of m purpose.Assertion [] (other_at own) (stray_at m may) r named pure c.outside c.others strays in
    record {
      gives = gives_of m j (pure_of m purpose.Assertion [] (other_at own) (stray_at m may) r refl refl y) (moded j (mode_of m r None) refl c.verdict);
      allowed = all_right m (impure_at m purpose.Assertion []) (outside_at purpose.Assertion) (other_at own) (stray_at m may) (of_format m may.fields) (declares_none m purpose.Assertion []) (format_node m may [] (other_at own)) r y;
      few = test_false (names_many m purpose.Assertion r) _ (back_none (in_nodes (impure_at m purpose.Assertion []) r) _ (later_none (unnamed m r) (impure m purpose.Assertion [] r) named pure));
    }
