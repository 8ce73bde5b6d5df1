-- The rules of a field of which nothing is said are formed.
use Rattle.std.proofs.Common.{◌≡◌, ◌∙◌, ℕ, ◌+◌, true, List, [], ◌∷◌, Option, Some, None, refl, sym, ap, subst}
use Rattle.std.specs.Prelude.{codes}
use Rattle.std.specs.List.{flat_map}
use Rattle.std.specs.Option.{option_map}
use Rattle.cg_base.specs.declared.form.Form.{Form}
use Rattle.cg_base.specs.declared.form.Form.TheVariants.{Items}
use Rattle.cg_base.specs.declared.mode.Mode.{Mode}
use Rattle.cg_base.specs.Parts.{◌>>=◌, headed, elements_of, only}
use Rattle.cg_attrs.specs.Clauses.{clauses}
use Rattle.cg_attrs.specs.Contents.{only_elements}
use Rattle.cg_attrs.specs.Lookups.{optional_form}
use Rattle.cg_desc_laws_forms.specs.Forms.{IsClear, HasCodes}
use Rattle.cg_desc_laws_forms.proofs.Clauses.{Stands, content_stands}
use Rattle.cg_desc_laws_forms.proofs.Codes.{codes_law}
use Rattle.cg_desc_laws_forms.proofs.FormFields.{field_by}
use Rattle.cg_desc_laws_forms.proofs.Rules.{elements_items}
use Rattle.cg_desc_elements.specs.declared.element.Element.{Element}
use Rattle.cg_desc_elements.specs.declared.element.Element.TheVariants as element
use Rattle.cg_desc_elements.specs.Elements.{kind_of}
use Rattle.cg_desc_elements.specs.declared.kind.Kind.TheVariants as kinds
use Rattle.cg_desc_elements.specs.Reading.{reader_for, element_faults}
use Rattle.cg_base.specs.Refusing.{least}
use Rattle.cg_hw.specs.Rules.{expression}
use Rattle.cg_ifield.specs.Contents as contents
use Rattle.cg_ifield.specs.Fields.{plain_in, multi_in, field_in, field_of, field_faults}
use Rattle.cg_ifield.specs.Tables.{kind_named}
use Rattle.cg_ifield.specs.declared.form.FieldForm.{FieldForm}
use Rattle.cg_ifield.specs.declared.form.FieldForm.TheVariants as field
use Rattle.cg_ifield.specs.declared.form.PlainForm.{PlainForm}
use Rattle.cg_ifield.specs.declared.table.FieldKind.{FieldKind}
use Rattle.cg_ifield.specs.declared.table.FieldKind.TheVariants as kind
use Rattle.cg_model.specs.Formed.{is_formed_where}
use Rattle.cg_model.specs.declared.machine.Machine.{Machine}
use Rattle.cg_model_faults.specs.declared.fault.Purpose.TheVariants as purpose
use Rattle.cg_rtl_resolve.specs.declared.scope.Rule.TheVariants as rule
use Rattle.cg_rtl_resolve.specs.declared.scope.Scope.{Scope}
use Rattle.cg_desc_choices.specs.declared.written.Written.{Written}
use Rattle.cg_desc_data.specs.Extents.{extent_of}
use Rattle.cg_desc_scope.specs.Described.{Described, scope_in}
use Rattle.cg_desc_scope.specs.Texts.{of_form}
use Rattle.cg_desc_insns.specs.Written.{only_in}
use Rattle.cg_desc_fault_rtl.specs.declared.asking.Naming.TheVariants as naming
use Rattle.cg_desc_fault_rtl.specs.Expressions.{coding_in}
use Rattle.cg_desc_fault_least.specs.Modes.{wanted, field_clause, modes_said}
use Rattle.cg_desc_fault_name.specs.E306 as e306
use Rattle.cg_desc_references.specs.Clauses.{clauses_in, clauses_of}
use Rattle.cg_desc_machine.specs.Rules.{coding, ruled_field}
use Rattle.cg_desc_laws.proofs.Opened.{Opened, opened}
use Rattle.cg_desc_laws.proofs.Ruled.{clause_formed}
use Rattle.cg_desc_laws.proofs.Unsaid.{Unsaid, none_missing, none_of_clause}

-- A coding is one list of the formals and the expression.
abbrev pub behind_formals : List Form → Option Form
behind_formals content = only content >>= elements_of >>= expression

same_second : (fs : List Form) → contents.second fs ≡ expression fs
same_second [] = refl
same_second (a ∷ []) = refl
same_second (a ∷ b ∷ []) = refl
same_second (a ∷ b ∷ c ∷ fs) = refl

same_behind : (o : Option (List Form)) → (o >>= contents.second) ≡ (o >>= expression)
same_behind None = refl
same_behind (Some fs) = same_second fs

pub same_coding : (content : List Form) → coding (Items content) ≡ behind_formals content
unfolding coding only_in
same_coding content = ap (λ o. o >>= only >>= elements_of >>= expression) (elements_items content)

clear_coding : (content : List Form) → IsClear (contents.expression content) → IsClear (behind_formals content)
unfolding contents.expression only_elements
clear_coding content h = subst IsClear (same_behind (only content >>= elements_of)) h

clear_in : (elements : List Form) (name : List ℕ) (x : Stands elements name) → IsClear (optional_form name elements >>= elements_of >>= contents.expression) → IsClear (behind_formals x.content)
clear_in elements name x h =
    clear_coding x.content (subst IsClear (ap (λ o. option_map Items o >>= elements_of >>= contents.expression) (content_stands elements name x) ∙ ap (λ o. o >>= contents.expression) (elements_items x.content)) h)

module _ (d : Described) (scope : Scope) (m : Machine) (number : ℕ) (f : Form) where
  pub record RulesFormed (form : PlainForm) : Type 0 where
    pub encode : is_formed_where (ruled_field d scope form).encode ≡ true
    pub decode : is_formed_where (ruled_field d scope form).decode ≡ true

  abbrev as_element : PlainForm → Element
  as_element form = element.Field (field.Plain form)

  -- what has to be shown of a form
  abbrev Shown : PlainForm → Type 0
  Shown form =
      HasCodes form → e306.e306 d scope m number (as_element form) f (of_form number d.written) ≡ []
      → modes_said d scope m (clauses_of (kind_of (as_element form)) f) (of_form number d.written) (as_element form) ≡ [] → RulesFormed form

  shown : (head : List ℕ) (elements : List Form) → headed f ≡ Some (head, elements) → Shown (plain_in elements)
  unfolding coding_in
  shown head elements is codes_clear names modes =
      let form : PlainForm = plain_in elements in
      let e : Element = as_element form in
      let ws : List Written = of_form number d.written in
      let mode : Mode = (extent_of d.framing form).mode in
      let no_names : flat_map (e306.in_clause d scope m number ws e) (clauses elements) ≡ [] =
      sym (ap (λ o. flat_map (e306.in_clause d scope m number ws e) (clauses_in kinds.Field o)) is) ∙ names in
      let no_modes : flat_map (field_clause m (ruled_field d scope form)) (clauses elements) ≡ [] =
      sym (ap (λ o. flat_map (field_clause m (ruled_field d scope form)) (clauses_in kinds.Field o)) is) ∙ modes in
      record {
        encode = clause_formed d.selection.at m (scope_in scope rule.Encode (Some mode)) refl form.name naming.Unasked (wanted purpose.Encode (Some mode) (Some mode)) elements (codes "encode") coding behind_formals same_coding
            (λ x. clear_in elements (codes "encode") x codes_clear.encode)
            (λ x. none_missing d scope m number ws e elements (codes "encode") x no_names)
            (λ x. none_of_clause (field_clause m (ruled_field d scope form)) elements (codes "encode") x no_modes);
        decode = clause_formed d.selection.at m (scope_in scope rule.Decode (Some mode)) refl form.name naming.Unasked (wanted purpose.Decode (Some mode) (Some mode)) elements (codes "decode") coding behind_formals same_coding
            (λ x. clear_in elements (codes "decode") x codes_clear.decode)
            (λ x. none_missing d scope m number ws e elements (codes "decode") x no_names)
            (λ x. none_of_clause (field_clause m (ruled_field d scope form)) elements (codes "decode") x no_modes);
      }

-- the elements of a plain field
abbrev plain_or : PlainForm → FieldForm → PlainForm
plain_or x (field.Plain y) = y
plain_or x _ = x

pub plain_opened : (f : Form) (form : PlainForm) (o : Opened kind_named field_in f (field.Plain form)) → (P : PlainForm → Type 0) → ((head : List ℕ) (elements : List Form) → headed f ≡ Some (head, elements) → P (plain_in elements)) → P form
plain_opened f form o P all = by o.kind refl where
  by : (k : FieldKind) → o.kind ≡ k → P form
  by kind.Plain is = subst P (ap (plain_or form) (sym (ap (λ k. field_in k o.elements) is) ∙ o.gives)) (all o.head o.elements o.is)
  by kind.Multi is = let never : field.Multi (multi_in o.elements) ≡ field.Plain form = sym (ap (λ k. field_in k o.elements) is) ∙ o.gives in absurd cc

pub rules_formed : (d : Described) (scope : Scope) (m : Machine) (form : PlainForm) (place : ℕ) (u : Unsaid d scope m place (element.Field (field.Plain form))) → RulesFormed d scope m (place + 1) u.top.form form
rules_formed d scope m form place u =
    let by : (field_of u.top.form ≡ Some (field.Plain form)) × (least (element_faults u.top.form) ≡ least (field_faults u.top.form)) = field_by u.top.form (reader_for u.top.form) (field.Plain form) u.is in
    plain_opened u.top.form form (opened kind_named field_in u.top.form (field.Plain form) by.0) (Shown d scope m (place + 1) u.top.form) (shown d scope m (place + 1) u.top.form)
    (codes_law u.top.form form u.clear u.is) u.names u.modes
