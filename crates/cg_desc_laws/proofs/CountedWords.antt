-- The words of hardware of which nothing is said aren't too many.
use Rattle.std.proofs.Common.{◌≡◌, ◌∙◌, ℕ, ◌+◌, if◌then◌else◌, List, [], length, is_some, Option, Some, None, refl, sym, ap, subst}
use Rattle.std.specs.Prelude.{codes}
use Rattle.std.specs.List.{flat_map}
use Rattle.std.specs.Option.{option_or, option_map}
use Rattle.cg_base.specs.declared.form.Form.{Form}
use Rattle.cg_base.specs.declared.form.Form.TheVariants.{Items}
use Rattle.cg_base.specs.Parts.{◌>>=◌, headed}
use Rattle.cg_base.specs.Refusing.{least}
use Rattle.cg_base.specs.Texts.{same_text}
use Rattle.cg_attrs.specs.Clauses.{clauses, content_at}
use Rattle.cg_desc_laws_forms.proofs.Clauses.{StandsWith, looked_up}
use Rattle.cg_desc_laws_forms.proofs.FormHardware.{hardware_by}
use Rattle.cg_desc_fault_count.specs.E308.{in_clause, of_clauses, gives_words}
use Rattle.cg_desc_choices.specs.declared.written.Written.{Written}
use Rattle.cg_desc_data.specs.Hardware.{words, words_in}
use Rattle.cg_desc_scope.specs.Described.{Described}
use Rattle.cg_desc_scope.specs.Texts.{of_form}
use Rattle.cg_desc_elements.specs.declared.element.Element.{Element}
use Rattle.cg_desc_elements.specs.declared.element.Element.TheVariants as element
use Rattle.cg_desc_elements.specs.declared.kind.Kind.TheVariants as kinds
use Rattle.cg_desc_elements.specs.Elements.{kind_of}
use Rattle.cg_desc_elements.specs.Reading.{reader_for, element_faults}
use Rattle.cg_hw.specs.Hardware.{hardware_in, hardware_of, hardware_faults}
use Rattle.cg_hw.specs.Tables.{kind_named}
use Rattle.cg_hw.specs.declared.form.HardwareForm.{HardwareForm}
use Rattle.cg_model.specs.Words.{named_values}
use Rattle.cg_model.specs.declared.machine.Machine.{Machine}
use Rattle.cg_model_faults.specs.Finding.{Faults}
use Rattle.cg_model_faults.specs.E308.{too_many}
use Rattle.cg_rtl_resolve.specs.declared.scope.Scope.{Scope}
use Rattle.cg_desc_references.specs.Clauses.{clauses_in, clauses_of}
use Rattle.cg_desc_laws.proofs.Opened.{Opened, opened}
use Rattle.cg_desc_laws.proofs.Unsaid.{none_of_clause}
use Rattle.cg_desc_laws.proofs.CountedOwn.{Own}

-- how many they are, by what their clauses say
abbrev words_by : Described → Option (List Form) → Option (List Form) → Faults
words_by d indices values = too_many 1024 (length (named_values (option_or (option_map Items indices) (option_map Items values) >>= words_in d.selection)))

module _ (d : Described) (scope : Scope) (m : Machine) (number : ℕ) (ws : List Written) (elements : List Form) where
  abbrev form : HardwareForm
  form = hardware_in elements

  abbrev e : Element
  e = element.Hardware form

  abbrev all : Faults
  all = words_by d (content_at (codes "indices") elements) (content_at (codes "values") elements)

  -- in a clause that gives them
  in_indices : (c : List Form) → content_at (codes "indices") elements ≡ Some c → flat_map (in_clause d scope m number e ws) (clauses elements) ≡ [] → all ≡ []
  in_indices c is none =
      let x : StandsWith elements (codes "indices") c = looked_up elements (codes "indices") c is in
      let said : (if gives_words form (codes "indices") then all else []) ≡ [] = none_of_clause (in_clause d scope m number e ws) elements (codes "indices") x.stands none in
      sym (ap (λ o. if (if is_some (option_map Items o) then same_text (codes "indices") (codes "indices") else same_text (codes "indices") (codes "values")) then all else []) is) ∙ said

  in_values : (c : List Form) → content_at (codes "indices") elements ≡ None → content_at (codes "values") elements ≡ Some c → flat_map (in_clause d scope m number e ws) (clauses elements) ≡ [] → all ≡ []
  in_values c absent is none =
      let x : StandsWith elements (codes "values") c = looked_up elements (codes "values") c is in
      let said : (if gives_words form (codes "values") then all else []) ≡ [] = none_of_clause (in_clause d scope m number e ws) elements (codes "values") x.stands none in
      sym (ap (λ o. if (if is_some (option_map Items o) then same_text (codes "values") (codes "indices") else same_text (codes "values") (codes "values")) then all else []) absent) ∙ said

  by_values : (o : Option (List Form)) → content_at (codes "values") elements ≡ o → content_at (codes "indices") elements ≡ None → flat_map (in_clause d scope m number e ws) (clauses elements) ≡ [] → all ≡ []
  by_values None nothing absent none = ap (λ x. words_by d x (content_at (codes "values") elements)) absent ∙ ap (words_by d None) nothing
  by_values (Some c) is absent none = in_values c absent is none

  by_indices : (o : Option (List Form)) → content_at (codes "indices") elements ≡ o → flat_map (in_clause d scope m number e ws) (clauses elements) ≡ [] → all ≡ []
  by_indices None absent none = by_values (content_at (codes "values") elements) refl absent none
  by_indices (Some c) is none = in_indices c is none

  pub few_here : flat_map (in_clause d scope m number e ws) (clauses elements) ≡ [] → too_many 1024 (length (named_values (words d.selection form))) ≡ []
  few_here none = by_indices (content_at (codes "indices") elements) refl none

pub few_words : (d : Described) (scope : Scope) (m : Machine) (form : HardwareForm) (place : ℕ) (o : Own d scope m place (element.Hardware form)) → too_many 1024 (length (named_values (words d.selection form))) ≡ []
few_words d scope m form place o =
    let by : (hardware_of o.top.form ≡ Some form) × (least (element_faults o.top.form) ≡ least (hardware_faults o.top.form)) = hardware_by o.top.form (reader_for o.top.form) form o.is in
    let x : Opened kind_named (λ kind elements. hardware_in elements) o.top.form form = opened kind_named (λ kind elements. hardware_in elements) o.top.form form by.0 in
    subst Few x.gives (here x.head x.elements x.is) o.clauses where
      Few : HardwareForm → Type 0
      Few y = of_clauses d scope m (place + 1) (element.Hardware y) (of_form (place + 1) d.written) (clauses_of (kind_of (element.Hardware y)) o.top.form) ≡ [] → too_many 1024 (length (named_values (words d.selection y))) ≡ []

      here : (head : List ℕ) (elements : List Form) → headed o.top.form ≡ Some (head, elements) → Few (hardware_in elements)
      here head elements is none =
          few_here d scope m (place + 1) (of_form (place + 1) d.written) elements
          (sym (ap (λ h. flat_map (in_clause d scope m (place + 1) (element.Hardware (hardware_in elements)) (of_form (place + 1) d.written)) (clauses_in kinds.Hardware h)) is) ∙ none)
