-- The words of hardware are words, where its form has no fault and no kind is said to be wrong in it.
use Rattle.std.proofs.Common.{◌≡◌, ◌∙◌, ℕ, Bool, true, false, if◌then◌else◌, is_some, List, [], ◌∷◌, Option, Some, None, refl, sym, ap}
use Rattle.std.specs.Prelude.{codes}
use Rattle.std.specs.List.{flat_map}
use Rattle.std.specs.Option.{option_map, option_or}
use Rattle.std.proofs.lemmas.Bool.{false≢true}
use Rattle.cg_base.specs.declared.form.Form.{Form}
use Rattle.cg_base.specs.declared.form.Form.TheVariants.{Items}
use Rattle.cg_base.specs.Parts.{◌>>=◌, Headed, headed, headed_in, only_symbol}
use Rattle.cg_base.specs.Texts.{same_text, passes}
use Rattle.cg_attrs.specs.declared.frame.KeywordForm.{KeywordForm}
use Rattle.cg_attrs.specs.Clauses.{Clause, content_at, clauses, standing, stands_as}
use Rattle.cg_desc_laws_forms.proofs.Clauses.{Stands, StandsWith, looked_up, standing_is}
use Rattle.cg_desc_laws_forms.proofs.Lists.{joined_none}
use Rattle.cg_desc_laws_forms.proofs.Rules.{elements_items}
use Rattle.cg_hw.specs.Keywords.{has_words, is_keyword_in}
use Rattle.cg_hw.specs.Hardware.{hardware_in}
use Rattle.cg_desc_elements.specs.declared.element.Element.{Element}
use Rattle.cg_desc_elements.specs.declared.element.Element.TheVariants as element
use Rattle.cg_model.specs.Formed.{are_words}
use Rattle.cg_model.specs.declared.machine.Machine.{Machine}
use Rattle.cg_rtl_resolve.specs.declared.scope.Scope.{Scope}
use Rattle.cg_desc_choices.specs.declared.written.Written.{Written}
use Rattle.cg_desc_data.specs.Selecting.{Selection}
use Rattle.cg_desc_data.specs.Hardware.{own_words, keyword_named, words_of, words_named, extern_words, words_behind, words_in, words}
use Rattle.cg_desc_scope.specs.Described.{Described}
use Rattle.cg_desc_fault_name.specs.E304 as e304
use Rattle.cg_desc_fault_name.specs.Words as words_at
use Rattle.cg_desc_fault_name.specs.Words.{has_words as form_has_words, wrong_words, wrong_keyword, extern_name, extern_in}
use Rattle.cg_desc_fault_report.specs.Saying.{only_text, placed}
use Rattle.cg_desc_laws.proofs.Unwrong.{none_of_kinds, unsaid_holds}
use Rattle.cg_desc_laws.proofs.Words.{own_are_words}

-- a keyword of which nothing is said
keyword_words : (name : List ℕ) (o : Option KeywordForm) → wrong_words name o ≡ [] → are_words (option_map words_of o) ≡ true
keyword_words name None h = refl
keyword_words name (Some form) h = unsaid_holds (form_has_words form) (placed (0 ∷ []) (only_text name)) h

named_words : (s : Selection) (o : Option (List ℕ)) → wrong_keyword s o ≡ [] → are_words (o >>= words_named s) ≡ true
named_words s None h = refl
named_words s (Some name) h = keyword_words name (keyword_named s name) h

-- what stands behind `indices` or `values`
behind_words : (s : Selection) (x : Headed) → is_keyword_in x ≡ true → wrong_keyword s (extern_name x) ≡ [] → are_words (words_behind s x) ≡ true
behind_words s x fits h = by (same_text (codes "extern-keyword") x.0) refl where
  own : (a b : Bool) → (if a then has_words x.1 else if b then is_some (only_symbol x.1) else false) ≡ true → b ≡ false → has_words x.1 ≡ true
  own true b e f = e
  own false true e f = let never : true ≡ false = f in absurd (false≢true (sym never))
  own false false e f = absurd (false≢true e)

  by : (b : Bool) → same_text (codes "extern-keyword") x.0 ≡ b → are_words (words_behind s x) ≡ true
  by true is =
      let none : wrong_keyword s (only_symbol x.1) ≡ [] = sym (ap (λ b. wrong_keyword s (if b then only_symbol x.1 else None)) is) ∙ h in
      ap (λ b. are_words (if b then extern_words s x.1 else own_words x.1)) is ∙ named_words s (only_symbol x.1) none
  by false is = ap (λ b. are_words (if b then extern_words s x.1 else own_words x.1)) is ∙ own_are_words x.1 (own (same_text (codes "keyword") x.0) (same_text (codes "extern-keyword") x.0) fits is)

content_words : (s : Selection) (content : List Form) → passes is_keyword_in (headed_in content) ≡ true → wrong_keyword s (headed_in content >>= extern_name) ≡ [] → are_words (headed_in content >>= words_behind s) ≡ true
content_words s content fits h = by (headed_in content) fits h where
  by : (o : Option Headed) → passes is_keyword_in o ≡ true → wrong_keyword s (o >>= extern_name) ≡ [] → are_words (o >>= words_behind s) ≡ true
  by None fits h = absurd (false≢true fits)
  by (Some x) fits h = behind_words s x fits h

module _ (d : Described) (scope : Scope) (m : Machine) (number : ℕ) (ws : List Written) (elements : List Form) (none : flat_map (e304.in_clause d scope m number ws (element.Hardware (hardware_in elements))) (clauses elements) ≡ []) where
  abbrev e : Element
  e = element.Hardware (hardware_in elements)

  -- in a clause no keyword is said to be wrong
  no_keyword : (name : List ℕ) (x : Stands elements name) → words_at.of_words d.selection e (record { name = name; content = x.content; elements = elements }) ≡ []
  no_keyword name x =
      let c : Clause = record { name = name; content = x.content; elements = elements } in
      let said : e304.in_clause d scope m number ws e c ≡ [] = joined_none (e304.in_clause d scope m number ws e) (standing elements) (stands_as name) x.element c elements none x.found (standing_is elements name x) in
      (none_of_kinds d scope m number ws e c said).0

  form_words : (content : List Form) → passes is_keyword_in (headed (Items content)) ≡ true → wrong_keyword d.selection (headed_in content >>= extern_name) ≡ [] → are_words (words_in d.selection (Items content)) ≡ true
  unfolding headed
  form_words content fits h =
      ap (λ o. are_words (o >>= headed_in >>= words_behind d.selection)) (elements_items content)
      ∙ content_words d.selection content (sym (ap (λ o. passes is_keyword_in (o >>= headed_in)) (elements_items content)) ∙ fits) h

  indices_words : (content : List Form) → content_at (codes "indices") elements ≡ Some content → passes is_keyword_in (headed (Items content)) ≡ true → are_words (words_in d.selection (Items content)) ≡ true
  unfolding extern_in
  indices_words content is fits =
      let x : StandsWith elements (codes "indices") content = looked_up elements (codes "indices") content is in
      form_words content fits (ap (λ fs. wrong_keyword d.selection (headed_in fs >>= extern_name)) (sym x.same) ∙ no_keyword (codes "indices") x.stands)

  values_words : (content : List Form) → content_at (codes "values") elements ≡ Some content → passes is_keyword_in (headed (Items content)) ≡ true → are_words (words_in d.selection (Items content)) ≡ true
  unfolding extern_in
  values_words content is fits =
      let x : StandsWith elements (codes "values") content = looked_up elements (codes "values") content is in
      form_words content fits (ap (λ fs. wrong_keyword d.selection (headed_in fs >>= extern_name)) (sym x.same) ∙ no_keyword (codes "values") x.stands)

  pub words_formed : ((f : Form) → option_or (hardware_in elements).indices (hardware_in elements).values ≡ Some f → passes is_keyword_in (headed f) ≡ true) → are_words (words d.selection (hardware_in elements)) ≡ true
  words_formed fits = by (content_at (codes "indices") elements) refl (content_at (codes "values") elements) refl where
    by : (o : Option (List Form)) → content_at (codes "indices") elements ≡ o → (p : Option (List Form)) → content_at (codes "values") elements ≡ p → are_words (words d.selection (hardware_in elements)) ≡ true
    by (Some content) is p at =
        let here : option_or (hardware_in elements).indices (hardware_in elements).values ≡ Some (Items content) = ap (λ o. option_or (option_map Items o) (hardware_in elements).values) is in
        ap (λ o. are_words (o >>= words_in d.selection)) here ∙ indices_words content is (fits (Items content) here)
    by None is (Some content) at =
        let here : option_or (hardware_in elements).indices (hardware_in elements).values ≡ Some (Items content) =
        ap (λ o. option_or (option_map Items o) (hardware_in elements).values) is ∙ ap (λ o. option_map Items o) at in
        ap (λ o. are_words (o >>= words_in d.selection)) here ∙ values_words content at (fits (Items content) here)
    by None is None at =
        let here : option_or (hardware_in elements).indices (hardware_in elements).values ≡ None =
        ap (λ o. option_or (option_map Items o) (hardware_in elements).values) is ∙ ap (λ o. option_map Items o) at in
        ap (λ o. are_words (o >>= words_in d.selection)) here
