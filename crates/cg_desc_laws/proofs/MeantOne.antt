-- An expression of which nothing is said means something in hand: what stands in it, what it may name, and whether it is pure.
use Rattle.std.proofs.Common.{◌≡◌, ◌∙◌, ◌⊎◌, inl, inr, ℕ, Bool, true, false, not, ◌&&◌, ◌||◌, if◌then◌else◌, List, [], ◌∷◌, ◌++◌, ℤ, pos, Option, Some, None, refl, sym, ap, subst}
use Rattle.std.specs.List.{flat_map}
use Rattle.std.specs.Option.{option_map}
use Rattle.std.proofs.lemmas.Bool.{false≢true}
use Rattle.cg_base.specs.declared.form.Form.{Form}
use Rattle.cg_base.specs.declared.mode.Mode.{Mode}
use Rattle.cg_base.specs.Refusing.{first}
use Rattle.cg_desc_laws_forms.proofs.Lists.{append_none}
use Rattle.cg_model_faults.specs.declared.fault.MachineFault.{MachineFault}
use Rattle.cg_model_faults.specs.declared.fault.Purpose.{Purpose}
use Rattle.cg_model_faults.specs.declared.fault.Purpose.TheVariants as purpose
use Rattle.cg_model_faults.specs.declared.fault.Said.TheVariants as said
use Rattle.cg_model.specs.declared.machine.Machine.{Machine}
use Rattle.cg_model.specs.declared.rtl.Op.{Op}
use Rattle.cg_model.specs.declared.rtl.Op.TheVariants as op
use Rattle.cg_model.specs.declared.rtl.Rtl.{Rtl}
use Rattle.cg_model_faults.specs.E304.{no_cell_at, no_cells}
use Rattle.cg_model_faults.specs.E306.{Nameable, stray_at, strays, unnamed}
use Rattle.cg_model_faults.specs.E315.{is_impure, names_field, names_other, names_ruled, may_not_name, impure_at, names_many, impure}
use Rattle.cg_model_faults.specs.Finding.{Faults, AtNode, at_place, where_so, in_nodes}
use Rattle.cg_model.specs.Pure.{is_pure_op}
use Rattle.cg_rtl_resolve.specs.Names.{rtl_of}
use Rattle.cg_rtl_resolve.specs.declared.scope.Scope.{Scope}
use Rattle.cg_desc_names.specs.Table.{Table}
use Rattle.cg_rtl_laws.specs.Covered.{IsSilent, AreSilent, IsPlain}
use Rattle.cg_rtl_laws.specs.Numbered.{HasEach, no_text_at}
use Rattle.cg_rtl_laws.proofs.Covered.{covered_law}
use Rattle.cg_rtl_laws.proofs.Numbered.{numbered_law}
use Rattle.cg_desc_fault_report.specs.declared.saying.Saying.{Saying}
use Rattle.cg_desc_fault_report.specs.declared.saying.Placed.{Placed}
use Rattle.cg_desc_fault_report.specs.Saying.{fault_said, only_text, placed}
use Rattle.cg_rtl_uses.specs.declared.uses.Use.{Use}
use Rattle.cg_rtl_uses.specs.declared.uses.Use.TheVariants as stands
use Rattle.cg_rtl_uses.specs.declared.uses.PlacedUse.{PlacedUse}
use Rattle.cg_rtl_uses.specs.Uses.{uses_of}
use Rattle.cg_desc_fault_rtl.specs.declared.asking.Asking.{Asking}
use Rattle.cg_desc_fault_rtl.specs.declared.asking.Expression.{Expression}
use Rattle.cg_desc_fault_rtl.specs.Asking.{asks_meaning, nameable, is_assertion, is_wide, purpose_of, expression_of}
use Rattle.cg_desc_fault_rtl.specs.Judging.{Says, placed_where, of_use, of_expression, of_expressions}
use Rattle.cg_desc_fault_rtl.specs.E315.{has_to_be_pure, is_asked, impurity, of_bits, of_one}
use Rattle.cg_desc_fault_name.specs.E304.{of_another_kind}
use Rattle.cg_desc_fault_name.specs.E306.{of_named, missing}

none_placed_where : (place : List ℕ) (o : Option Saying) → placed_where place o ≡ [] → o ≡ None
none_placed_where place None h = refl
none_placed_where place (Some said) h = absurd cc

none_mapped : {A B : Type 0} (f : A → B) (o : Option A) → option_map f o ≡ None → o ≡ None
none_mapped f None h = refl
none_mapped f (Some x) h = absurd cc

none_first : {A : Type 0} (xs : List A) → first xs ≡ None → xs ≡ []
none_first [] h = refl
none_first (x ∷ xs) h = absurd cc

-- Where a rule that says nothing of a node says so for want of a fault, what stands there is silent.
module _ (says : Says) (at : AtNode) (x : Expression) (tells : (o : Op) (mode : Option Mode) (n : ℤ) → says x (stands.Node o mode n) ≡ None → at o mode n ≡ []) where
  silent_here : (u : PlacedUse) → of_use says x u ≡ [] → IsSilent at u.what
  silent_here u h = by u.what refl where
    none : says x u.what ≡ None
    none = none_placed_where (x.asking.at ++ u.place) (says x u.what) h

    by : (w : Use) → u.what ≡ w → IsSilent at u.what
    by (stands.Node o mode n) is = subst (IsSilent at) (sym is) (tells o mode n (sym (ap (says x) is) ∙ none))
    by (stands.Constant name n) is = subst (IsSilent at) (sym is) tt
    by (stands.Undefined name) is = subst (IsSilent at) (sym is) tt
    by (stands.Unknown name) is = subst (IsSilent at) (sym is) tt

  all_silent : (us : List PlacedUse) → flat_map (of_use says x) us ≡ [] → AreSilent at us
  all_silent [] h = tt
  all_silent (u ∷ us) h =
      let both : (of_use says x u ≡ []) × (flat_map (of_use says x) us ≡ []) = append_none (of_use says x u) (flat_map (of_use says x) us) h in
      (silent_here u both.0, all_silent us both.1)

  pub silent : of_expression says x ≡ [] → AreSilent at x.uses
  silent h = all_silent x.uses h

-- The rules of a node are plain.
pub cells_plain : (m : Machine) → IsPlain (no_cell_at m)
unfolding no_cell_at
cells_plain m = record { nothing = refl; constant = λ n. refl; error = λ mode n h. refl }

pub strays_plain : (m : Machine) (may : Nameable) → IsPlain (stray_at m may)
unfolding stray_at
strays_plain m may = record { nothing = refl; constant = λ n. refl; error = λ mode n h. refl }

names_nothing : (m : Machine) (p : Purpose) (subs : List ℕ) → may_not_name m p subs op.Nop (pos 0) ≡ false
unfolding may_not_name names_field names_other names_ruled
names_nothing m purpose.Encode subs = refl
names_nothing m purpose.Decode subs = refl
names_nothing m purpose.Insert subs = refl
names_nothing m purpose.Extract subs = refl
names_nothing m purpose.Assertion subs = refl
names_nothing m _ subs = refl

names_number : (m : Machine) (p : Purpose) (subs : List ℕ) (n : ℤ) → may_not_name m p subs op.Number n ≡ false
unfolding may_not_name names_field names_other names_ruled
names_number m purpose.Encode subs n = refl
names_number m purpose.Decode subs n = refl
names_number m purpose.Insert subs n = refl
names_number m purpose.Extract subs n = refl
names_number m purpose.Assertion subs n = refl
names_number m _ subs n = refl

abbrev pub impure_fault : MachineFault
impure_fault = at_place 315 0 said.Own said.Nothing

pub pure_plain : (m : Machine) (p : Purpose) (subs : List ℕ) → IsPlain (impure_at m p subs)
unfolding impure_at is_impure
pure_plain m p subs = record {
  nothing = ap (λ b. where_so (false || b) impure_fault) (names_nothing m p subs);
  constant = λ n. ap (λ b. where_so (false || b) impure_fault) (names_number m p subs n);
  error = λ mode n h. h;
}

-- No error is pure.
no_error : (m : Machine) (p : Purpose) (subs : List ℕ) (o : Op) (mode : Option Mode) (n : ℤ) → impure_at m p subs o mode n ≡ [] → no_text_at m o mode n ≡ []
unfolding impure_at is_impure no_text_at
no_error m p subs op.Error mode n h = absurd cc
no_error m p subs _ mode n h = refl

pure_without_errors : (m : Machine) (p : Purpose) (subs : List ℕ) (us : List PlacedUse) → AreSilent (impure_at m p subs) us → AreSilent (no_text_at m) us
pure_without_errors m p subs [] h = tt
pure_without_errors m p subs (u ∷ us) h = (here u.what refl h.0, pure_without_errors m p subs us h.1) where
  here : (w : Use) → u.what ≡ w → IsSilent (impure_at m p subs) u.what → IsSilent (no_text_at m) u.what
  here (stands.Node o mode n) is g = subst (IsSilent (no_text_at m)) (sym is) (no_error m p subs o mode n (subst (IsSilent (impure_at m p subs)) is g))
  here (stands.Constant name n) is g = subst (IsSilent (no_text_at m)) (sym is) tt
  here (stands.Undefined name) is g = subst (IsSilent (no_text_at m)) (sym is) tt
  here (stands.Unknown name) is g = subst (IsSilent (no_text_at m)) (sym is) tt

-- An assertion alone may name too many bits.
pub few_bits : (m : Machine) (p : Purpose) (r : Rtl) → (is_assertion p && names_many m purpose.Assertion r) ≡ false → names_many m p r ≡ false
unfolding names_many
few_bits m purpose.Assertion r h = h
few_bits m _ r h = refl

not_wide : (b : Bool) (x : Placed) → (if b then x ∷ [] else []) ≡ [] → b ≡ false
not_wide true x h = absurd cc
not_wide false x h = refl

asked_wide : (a b c : Bool) → b ≡ true → (a && b && c) ≡ false → (a && c) ≡ false
asked_wide true true c is h = h
asked_wide false b c is h = refl
asked_wide true false c is h = absurd (false≢true is)

-- What of an expression is so in hand.
pub record IsMeant (m : Machine) (p : Purpose) (a : Asking) (r : Rtl) : Type 0 where
  pub cells : no_cells m r ≡ []
  pub strays : (may : Nameable) → nameable m a.naming ≡ Some may → strays m may r ≡ []
  pub pure : has_to_be_pure p ≡ true → impure m p a.subs r ≡ []
  pub numbers : has_to_be_pure p ≡ true → unnamed m r ≡ []

module _ (at : Table) (m : Machine) (s : Scope) (f : Form) (a : Asking) (asks : asks_meaning a.asked ≡ true) where
  x : Expression
  x = expression_of m s f a

  cell_tells : (o : Op) (mode : Option Mode) (n : ℤ) → of_another_kind at m (expression_of m s f a) (stands.Node o mode n) ≡ None → no_cell_at m o mode n ≡ []
  unfolding of_another_kind
  cell_tells o mode n h =
      none_first (no_cell_at m o mode n) (none_mapped (fault_said m []) (first (no_cell_at m o mode n))
      (sym (ap (λ b. if b then option_map (fault_said m []) (first (no_cell_at m o mode n)) else None) asks) ∙ h))

  stray_tells : (may : Nameable) → nameable m a.naming ≡ Some may → (o : Op) (mode : Option Mode) (n : ℤ) → missing at m (expression_of m s f a) (stands.Node o mode n) ≡ None → stray_at m may o mode n ≡ []
  unfolding missing
  stray_tells may is o mode n h =
      none_first (stray_at m may o mode n) (none_mapped (fault_said m []) (first (stray_at m may o mode n))
      (sym (ap (λ y. of_named m y o mode n) is) ∙ sym (ap (λ b. if b then of_named m (nameable m a.naming) o mode n else None) asks) ∙ h))

  pure_tells : has_to_be_pure (purpose_of s.rule) ≡ true → (o : Op) (mode : Option Mode) (n : ℤ) → impurity at m (expression_of m s f a) (stands.Node o mode n) ≡ None → impure_at m (purpose_of s.rule) a.subs o mode n ≡ []
  unfolding impurity
  pure_tells pure o mode n h =
      none_first (impure_at m (purpose_of s.rule) a.subs o mode n) (none_mapped (fault_said m a.own) (first (impure_at m (purpose_of s.rule) a.subs o mode n))
      (sym (ap (λ b. if b then option_map (fault_said m a.own) (first (impure_at m (purpose_of s.rule) a.subs o mode n)) else None) (both (has_to_be_pure (purpose_of s.rule)) (asks_meaning a.asked) pure asks)) ∙ h)) where
        both : (b c : Bool) → b ≡ true → c ≡ true → (b && c) ≡ true
        both true c g k = k
        both false c g k = g

  module _ (kinds : of_expression (of_another_kind at m) (expression_of m s f a) ≡ []) (names : of_expression (missing at m) (expression_of m s f a) ≡ []) (pure : of_one at m (expression_of m s f a) ≡ []) where
    pub cells_none : no_cells m (rtl_of s f) ≡ []
    cells_none = (covered_law s).covered (no_cell_at m) (cells_plain m) f (silent (of_another_kind at m) (no_cell_at m) (expression_of m s f a) cell_tells kinds)

    pub strays_none : (may : Nameable) → nameable m a.naming ≡ Some may → strays m may (rtl_of s f) ≡ []
    strays_none may is = (covered_law s).covered (stray_at m may) (strays_plain m may) f (silent (missing at m) (stray_at m may) (expression_of m s f a) (stray_tells may is) names)

    apart : (of_bits (expression_of m s f a) ≡ []) × (of_expression (impurity at m) (expression_of m s f a) ≡ [])
    apart = append_none (of_bits (expression_of m s f a)) (of_expression (impurity at m) (expression_of m s f a)) pure

    pure_uses : has_to_be_pure (purpose_of s.rule) ≡ true → AreSilent (impure_at m (purpose_of s.rule) a.subs) (uses_of s f)
    pure_uses is = silent (impurity at m) (impure_at m (purpose_of s.rule) a.subs) (expression_of m s f a) (pure_tells is) apart.1

    pub nodes_pure : has_to_be_pure (purpose_of s.rule) ≡ true → in_nodes (impure_at m (purpose_of s.rule) a.subs) (rtl_of s f) ≡ []
    nodes_pure is = (covered_law s).covered (impure_at m (purpose_of s.rule) a.subs) (pure_plain m (purpose_of s.rule) a.subs) f (pure_uses is)

    few : names_many m (purpose_of s.rule) (rtl_of s f) ≡ false
    few =
        few_bits m (purpose_of s.rule) (rtl_of s f)
        (asked_wide (is_assertion (purpose_of s.rule)) (asks_meaning a.asked) (names_many m purpose.Assertion (rtl_of s f)) asks (not_wide (is_wide m s f a.asked) (placed a.at (only_text a.own)) apart.0))

    pub pure_none : has_to_be_pure (purpose_of s.rule) ≡ true → impure m (purpose_of s.rule) a.subs (rtl_of s f) ≡ []
    pure_none is =
        ap (λ fs. fs ++ where_so (names_many m (purpose_of s.rule) (rtl_of s f)) impure_fault) (nodes_pure is)
        ∙ ap (λ b. where_so b impure_fault) few

    pub pure_numbered : HasEach s m → has_to_be_pure (purpose_of s.rule) ≡ true → unnamed m (rtl_of s f) ≡ []
    pure_numbered each is = (numbered_law s m).numbered each f (pure_without_errors m (purpose_of s.rule) a.subs (uses_of s f) (pure_uses is))

    pub meant : HasEach s m → IsMeant m (purpose_of s.rule) a (rtl_of s f)
    meant each = record { cells = cells_none; strays = strays_none; pure = pure_none; numbers = pure_numbered each }

  pub numbered_with : HasEach s m → AreSilent (no_text_at m) (uses_of s f) → unnamed m (rtl_of s f) ≡ []
  numbered_with each h = (numbered_law s m).numbered each f h
