-- The rules of a field of which nothing is said hold in hand.
use Rattle.std.proofs.Common.{◌≡◌, ◌∙◌, ℕ, ◌+◌, List, [], ◌∷◌, ◌++◌, Some, None, refl, sym, ap, subst}
use Rattle.std.specs.Prelude.{codes}
use Rattle.std.specs.List.{flat_map}
use Rattle.cg_base.specs.declared.form.Form.{Form}
use Rattle.cg_base.specs.declared.mode.Mode.{Mode}
use Rattle.cg_base.specs.Parts.{headed}
use Rattle.cg_base.specs.Refusing.{least}
use Rattle.cg_attrs.specs.Clauses.{clauses}
use Rattle.cg_desc_laws_forms.proofs.FormFields.{field_by}
use Rattle.cg_rtl_laws.specs.Numbered.{HasEach}
use Rattle.cg_desc_elements.specs.declared.element.Element.{Element}
use Rattle.cg_desc_elements.specs.declared.element.Element.TheVariants as element
use Rattle.cg_desc_elements.specs.declared.kind.Kind.TheVariants as kinds
use Rattle.cg_desc_elements.specs.Elements.{kind_of}
use Rattle.cg_desc_elements.specs.Reading.{reader_for, element_faults}
use Rattle.cg_ifield.specs.Fields.{plain_in, field_in, field_of, field_faults}
use Rattle.cg_ifield.specs.Tables.{kind_named}
use Rattle.cg_ifield.specs.declared.form.FieldForm.TheVariants as field
use Rattle.cg_ifield.specs.declared.form.PlainForm.{PlainForm}
use Rattle.cg_model.specs.declared.field.Field.{Field}
use Rattle.cg_model.specs.declared.machine.Machine.{Machine}
use Rattle.cg_model_faults.specs.declared.fault.Purpose.TheVariants as purpose
use Rattle.cg_model_faults.specs.Elements.{judged_where, field_modes}
use Rattle.cg_model_faults.specs.Judging.{has_value}
use Rattle.cg_rtl_resolve.specs.declared.scope.Rule.TheVariants as rule
use Rattle.cg_rtl_resolve.specs.declared.scope.Scope.{Scope}
use Rattle.cg_desc_choices.specs.declared.written.Written.{Written}
use Rattle.cg_desc_data.specs.Extents.{extent_of}
use Rattle.cg_desc_scope.specs.Described.{Described, scope_in}
use Rattle.cg_desc_scope.specs.Texts.{of_form}
use Rattle.cg_desc_fault_rtl.specs.declared.asking.Naming.TheVariants as naming
use Rattle.cg_desc_fault_rtl.specs.Expressions.{coding_in}
use Rattle.cg_desc_fault_rtl.specs.E315 as e315
use Rattle.cg_desc_fault_least.specs.Modes.{field_clause, modes_said}
use Rattle.cg_desc_fault_name.specs.E304 as e304
use Rattle.cg_desc_fault_name.specs.E306 as e306
use Rattle.cg_desc_references.specs.Clauses.{clauses_in, clauses_of}
use Rattle.cg_desc_machine.specs.Rules.{coding, ruled_field}
use Rattle.cg_desc_laws.proofs.Fields.{behind_formals, same_coding, plain_opened}
use Rattle.cg_desc_laws.proofs.Opened.{opened}
use Rattle.cg_desc_laws.proofs.Unsaid.{none_missing, none_of_clause}
use Rattle.cg_desc_laws.proofs.MeantEach.{each_in}
use Rattle.cg_desc_laws.proofs.MeantQuiet.{Quiet, none_of_another, none_impure}
use Rattle.cg_desc_laws.proofs.MeantRules.{RuleHolds, clause_holds, outside_both, modes_both, judged_none}

module _ (d : Described) (scope : Scope) (m : Machine) (each : HasEach scope m) (number : ℕ) (f : Form) where
  pub record RulesHold (form : PlainForm) : Type 0 where
    pub encode : RuleHolds m purpose.Encode (Some (ruled_field d scope form).mode) (Some (ruled_field d scope form).mode) (ruled_field d scope form).encode
    pub decode : RuleHolds m purpose.Decode (Some (ruled_field d scope form).mode) (Some (ruled_field d scope form).mode) (ruled_field d scope form).decode

  abbrev as_element : PlainForm → Element
  as_element form = element.Field (field.Plain form)

  abbrev Shown : PlainForm → Type 0
  Shown form =
      e304.e304 d scope m number (as_element form) f (of_form number d.written) ≡ []
      → e306.e306 d scope m number (as_element form) f (of_form number d.written) ≡ []
      → e315.e315 d scope m (as_element form) f (of_form number d.written) ≡ []
      → modes_said d scope m (clauses_of (kind_of (as_element form)) f) (of_form number d.written) (as_element form) ≡ [] → RulesHold form

  shown : (head : List ℕ) (elements : List Form) → headed f ≡ Some (head, elements) → Shown (plain_in elements)
  unfolding coding_in has_value
  shown head elements is kinds_none names says modes =
      let form : PlainForm = plain_in elements in
      let e : Element = as_element form in
      let ws : List Written = of_form number d.written in
      let mode : Mode = (extent_of d.framing form).mode in
      let no_kinds : flat_map (e304.in_clause d scope m number ws e) (clauses elements) ≡ [] =
      sym (ap (λ o. flat_map (e304.in_clause d scope m number ws e) (clauses_in kinds.Field o)) is) ∙ kinds_none in
      let no_names : flat_map (e306.in_clause d scope m number ws e) (clauses elements) ≡ [] =
      sym (ap (λ o. flat_map (e306.in_clause d scope m number ws e) (clauses_in kinds.Field o)) is) ∙ names in
      let no_says : flat_map (e315.in_clause d scope m ws e) (clauses elements) ≡ [] =
      sym (ap (λ o. flat_map (e315.in_clause d scope m ws e) (clauses_in kinds.Field o)) is) ∙ says in
      let no_modes : flat_map (field_clause m (ruled_field d scope form)) (clauses elements) ≡ [] =
      sym (ap (λ o. flat_map (field_clause m (ruled_field d scope form)) (clauses_in kinds.Field o)) is) ∙ modes in
      record {
        encode = clause_holds d.selection.at m (scope_in scope rule.Encode (Some mode)) (each_in scope m each rule.Encode (Some mode)) refl refl form.name naming.Unasked (Some mode) (Some mode) elements (codes "encode") coding behind_formals same_coding
            (λ x. none_of_another d scope m number ws e elements (codes "encode") x no_kinds)
            (λ x. none_missing d scope m number ws e elements (codes "encode") x no_names)
            (λ x. none_impure d scope m ws e elements (codes "encode") x no_says)
            (λ x. none_of_clause (field_clause m (ruled_field d scope form)) elements (codes "encode") x no_modes);
        decode = clause_holds d.selection.at m (scope_in scope rule.Decode (Some mode)) (each_in scope m each rule.Decode (Some mode)) refl refl form.name naming.Unasked (Some mode) (Some mode) elements (codes "decode") coding behind_formals same_coding
            (λ x. none_of_another d scope m number ws e elements (codes "decode") x no_kinds)
            (λ x. none_missing d scope m number ws e elements (codes "decode") x no_names)
            (λ x. none_impure d scope m ws e elements (codes "decode") x no_says)
            (λ x. none_of_clause (field_clause m (ruled_field d scope form)) elements (codes "decode") x no_modes);
      }

pub rules_hold : (d : Described) (scope : Scope) (m : Machine) (each : HasEach scope m) (form : PlainForm) (place : ℕ) (q : Quiet d scope m place (element.Field (field.Plain form))) → RulesHold d scope m each (place + 1) q.unsaid.top.form form
rules_hold d scope m each form place q =
    let by : (field_of q.unsaid.top.form ≡ Some (field.Plain form)) × (least (element_faults q.unsaid.top.form) ≡ least (field_faults q.unsaid.top.form)) = field_by q.unsaid.top.form (reader_for q.unsaid.top.form) (field.Plain form) q.unsaid.is in
    plain_opened q.unsaid.top.form form (opened kind_named field_in q.unsaid.top.form (field.Plain form) by.0) (Shown d scope m each (place + 1) q.unsaid.top.form) (shown d scope m each (place + 1) q.unsaid.top.form)
    q.unsaid.kinds q.unsaid.names q.pure q.unsaid.modes

pub field_moded : (d : Described) (scope : Scope) (m : Machine) (each : HasEach scope m) (form : PlainForm) (number : ℕ) (f : Form) → RulesHold d scope m each number f form → field_modes m (ruled_field d scope form) ≡ []
field_moded d scope m each form number f r =
    let x : Field = ruled_field d scope form in
    judged_none m (judged_where purpose.Encode (Some x.mode) (Some x.mode) x.encode ++ judged_where purpose.Decode (Some x.mode) (Some x.mode) x.decode)
    (outside_both (judged_where purpose.Encode (Some x.mode) (Some x.mode) x.encode) (judged_where purpose.Decode (Some x.mode) (Some x.mode) x.decode) r.encode.outside r.decode.outside)
    (modes_both m (judged_where purpose.Encode (Some x.mode) (Some x.mode) x.encode) (judged_where purpose.Decode (Some x.mode) (Some x.mode) x.decode) r.encode.modes r.decode.modes)
