-- The rules of a multi field of which nothing is said are formed, and there is one for each of its fields.
use Rattle.std.proofs.Common.{◌≡◌, ◌∙◌, ℕ, suc, ◌+◌, Bool, true, false, ◌&&◌, ◌||◌, if◌then◌else◌, List, [], ◌∷◌, ◌++◌, length, Option, Some, None, is_some, refl, ap, subst}
use Rattle.std.specs.List.{list_all, list_any, filter_map, cons_option}
use Rattle.std.specs.Option.{option_map}
use Rattle.std.proofs.lemmas.Bool.{false≢true}
use Rattle.cg_base.specs.declared.form.Form.{Form}
use Rattle.cg_base.specs.Texts.{same_text, passes}
use Rattle.cg_desc_laws_forms.specs.Forms.{IsClear, AreClear, is_set_in}
use Rattle.cg_desc_laws_forms.proofs.Clauses.{equal_texts, first_true, second_true}
use Rattle.cg_desc_laws_forms.proofs.Lists.{append_none, the_found}
use Rattle.cg_ifield.specs.Sets.{set_of, sets_field}
use Rattle.cg_desc_names.specs.Table.{Table}
use Rattle.cg_model.specs.Formed.{is_formed}
use Rattle.cg_model.specs.declared.field.Multi.{Multi}
use Rattle.cg_model.specs.declared.machine.Machine.{Machine}
use Rattle.cg_model.specs.declared.rtl.Rtl.{Rtl}
use Rattle.cg_model_faults.specs.declared.fault.Purpose.TheVariants as purpose
use Rattle.cg_model_faults.specs.Elements.{mode_of_field}
use Rattle.cg_rtl_resolve.specs.Names.{found_under, rtl_of}
use Rattle.cg_rtl_resolve.specs.declared.scope.Scope.{Scope}
use Rattle.cg_desc_data.specs.Numbering.{Numbering}
use Rattle.cg_desc_fault_rtl.specs.Asking.{expression_of}
use Rattle.cg_desc_fault_rtl.specs.Expressions.{set_asking, sets_from}
use Rattle.cg_desc_fault_rtl.specs.Judging.{of_expression, of_expressions}
use Rattle.cg_desc_fault_least.specs.Modes.{wanted, of_sub, of_set, of_sets}
use Rattle.cg_desc_fault_name.specs.E306.{missing}
use Rattle.cg_desc_machine.specs.Rules.{inserted, insert_scope}
use Rattle.cg_desc_laws.proofs.Formed.{formed}

-- Expressions under names, of which each is clear.
abbrev pub Clears : List (List ℕ × Form) → Type 0
Clears [] = Unit {0}
Clears (x ∷ xs) = IsClear (Some x.1) × Clears xs

pub clears : (fs : List Form) → AreClear fs → Clears (filter_map set_of fs)
clears [] h = tt
clears (f ∷ fs) h = at (set_of f) h.0 (clears fs h.1) where
  at : (o : Option (List ℕ × Form)) → IsClear (option_map (λ x. x.1) o) → Clears (filter_map set_of fs) → Clears (cons_option o (filter_map set_of fs))
  at None c rest = rest
  at (Some x) c rest = (c, rest)

-- of a name that is set, there is one
pub under_some : (name : List ℕ) (fs : List Form) → list_any (sets_field name) fs ≡ true → is_some (found_under name (filter_map set_of fs)) ≡ true
under_some name [] h = absurd (false≢true h)
under_some name (f ∷ fs) h = at (under_some name fs) (set_of f) h where
  here : (list_any (sets_field name) fs ≡ true → is_some (found_under name (filter_map set_of fs)) ≡ true) → (x : List ℕ × Form) (b : Bool) → (b || list_any (sets_field name) fs) ≡ true → is_some (if b then Some x.1 else found_under name (filter_map set_of fs)) ≡ true
  here rest x true e = refl
  here rest x false e = rest e

  at : (list_any (sets_field name) fs ≡ true → is_some (found_under name (filter_map set_of fs)) ≡ true) → (o : Option (List ℕ × Form)) → (passes (λ x. same_text x.0 name) o || list_any (sets_field name) fs) ≡ true → is_some (found_under name (cons_option o (filter_map set_of fs))) ≡ true
  at rest None e = rest e
  at rest (Some x) e = here rest x (same_text x.0 name) e

module _ (at : Table) (m : Machine) (fields : Numbering) (s : Scope) (x : Multi) where
  -- one that is set, where its name is a field's
  own : (y : List ℕ × Form) (k : ℕ) (subs : List ℕ) → IsClear (Some y.1) → of_expression (missing at m) (expression_of m (insert_scope s x) y.1 (set_asking x.name subs k)) ≡ [] → of_set fields m (insert_scope s x) x y ≡ [] → is_some (fields y.0) ≡ true → is_formed (rtl_of (insert_scope s x) y.1) ≡ true
  own y k subs clear names modes known = by (fields y.0) modes known where
    by : (o : Option ℕ) → of_sub m (insert_scope s x) x y.1 o ≡ [] → is_some o ≡ true → is_formed (rtl_of (insert_scope s x) y.1) ≡ true
    by None modes some = absurd (false≢true some)
    by (Some n) modes some = formed at m (insert_scope s x) y.1 (set_asking x.name subs k) x.name (wanted purpose.Insert (mode_of_field m n) (Some x.mode)) refl refl clear (ap (λ zs. zs ++ []) names) modes

  -- what is under a name is formed, where the name is a field's
  pub under_formed : (sets : List (List ℕ × Form)) (k : ℕ) (subs : List ℕ) → Clears sets → of_expressions (missing at m) (sets_from m x.name (insert_scope s x) subs k sets) ≡ [] → of_sets fields m (insert_scope s x) x sets ≡ []
      → (name : List ℕ) (f : Form) → found_under name sets ≡ Some f → is_some (fields name) ≡ true → is_formed (rtl_of (insert_scope s x) f) ≡ true
  under_formed [] k subs clear names modes name f is known = absurd cc
  under_formed (y ∷ ys) k subs clear names modes name f is known =
      let apart : (of_expression (missing at m) (expression_of m (insert_scope s x) y.1 (set_asking x.name subs k)) ≡ []) × (of_expressions (missing at m) (sets_from m x.name (insert_scope s x) subs (k + 1) ys) ≡ []) =
      append_none (of_expression (missing at m) (expression_of m (insert_scope s x) y.1 (set_asking x.name subs k))) (of_expressions (missing at m) (sets_from m x.name (insert_scope s x) subs (k + 1) ys)) names in
      let moded : (of_set fields m (insert_scope s x) x y ≡ []) × (of_sets fields m (insert_scope s x) x ys ≡ []) = append_none (of_set fields m (insert_scope s x) x y) (of_sets fields m (insert_scope s x) x ys) modes in
      by (under_formed ys (k + 1) subs clear.1 apart.1 moded.1 name f) (own y k subs clear.0 apart.0 moded.0) (same_text y.0 name) refl is where
        by : (found_under name ys ≡ Some f → is_some (fields name) ≡ true → is_formed (rtl_of (insert_scope s x) f) ≡ true) → (is_some (fields y.0) ≡ true → is_formed (rtl_of (insert_scope s x) y.1) ≡ true) → (b : Bool) → same_text y.0 name ≡ b → (if b then Some y.1 else found_under name ys) ≡ Some f → is_formed (rtl_of (insert_scope s x) f) ≡ true
        by rest here true same e = subst (λ g. is_formed (rtl_of (insert_scope s x) g) ≡ true) (the_found y.1 f e) (here (ap (λ n. is_some (fields n)) (equal_texts y.0 name same) ∙ known))
        by rest here false same e = rest e known

  module _ (sets : List (List ℕ × Form)) (all : (name : List ℕ) (f : Form) → found_under name sets ≡ Some f → is_some (fields name) ≡ true → is_formed (rtl_of (insert_scope s x) f) ≡ true) where
    abbrev one_by : Bool → Option Form → Option Rtl
    one_by known o = if known then option_map (rtl_of (insert_scope s x)) o else None

    -- those that are inserted are formed
    one_inserted : (name : List ℕ) (rest : List Rtl) → list_all is_formed rest ≡ true → list_all is_formed (cons_option (inserted fields (insert_scope s x) sets name) rest) ≡ true
    one_inserted name rest h = by (is_some (fields name)) refl (found_under name sets) refl where
      by : (b : Bool) → is_some (fields name) ≡ b → (o : Option Form) → found_under name sets ≡ o → list_all is_formed (cons_option (one_by (is_some (fields name)) (found_under name sets)) rest) ≡ true
      by false known o is = ap (λ b. list_all is_formed (cons_option (one_by b (found_under name sets)) rest)) known ∙ h
      by true known None is = ap (λ b. list_all is_formed (cons_option (one_by b (found_under name sets)) rest)) known ∙ ap (λ o. list_all is_formed (cons_option (one_by true o) rest)) is ∙ h
      by true known (Some f) is =
          ap (λ b. list_all is_formed (cons_option (one_by b (found_under name sets)) rest)) known
          ∙ ap (λ o. list_all is_formed (cons_option (one_by true o) rest)) is
          ∙ ap (λ b. b && list_all is_formed rest) (all name f is known) ∙ h

    pub inserted_formed : (names : List (List ℕ)) → list_all is_formed (filter_map (inserted fields (insert_scope s x) sets) names) ≡ true
    inserted_formed [] = refl
    inserted_formed (name ∷ names) = one_inserted name (filter_map (inserted fields (insert_scope s x) sets) names) (inserted_formed names)

-- as many as fields
module _ (fields : Numbering) (s : Scope) (fs : List Form) where
  abbrev one_given : Option ℕ → Option Form → Option Rtl
  one_given n o = if is_some n then option_map (rtl_of s) o else None

  one_more : (name : List ℕ) (rs : List Rtl) (ns : List ℕ) → is_some (found_under name (filter_map set_of fs)) ≡ true → length rs ≡ length ns → length (cons_option (inserted fields s (filter_map set_of fs) name) rs) ≡ length (cons_option (fields name) ns)
  one_more name rs ns some same = by (fields name) (found_under name (filter_map set_of fs)) some where
    by : (n : Option ℕ) (o : Option Form) → is_some o ≡ true → length (cons_option (one_given n o) rs) ≡ length (cons_option n ns)
    by None o some = same
    by (Some n) None some = absurd (false≢true some)
    by (Some n) (Some f) some = ap suc same

  pub as_many : (names : List (List ℕ)) → list_all (is_set_in fs) names ≡ true → length (filter_map (inserted fields s (filter_map set_of fs)) names) ≡ length (filter_map fields names)
  as_many [] h = refl
  as_many (name ∷ names) h =
      one_more name (filter_map (inserted fields s (filter_map set_of fs)) names) (filter_map fields names) (under_some name fs (first_true (is_set_in fs name) (list_all (is_set_in fs) names) h))
      (as_many names (second_true (is_set_in fs name) (list_all (is_set_in fs) names) h))
