-- The rules of hardware of which nothing is said are formed.
use Rattle.std.proofs.Common.{◌≡◌, ◌∙◌, ℕ, ◌+◌, true, List, [], Some, None, refl, sym, ap, subst}
use Rattle.std.specs.Prelude.{codes}
use Rattle.std.specs.List.{flat_map}
use Rattle.std.specs.Option.{option_map}
use Rattle.cg_base.specs.declared.form.Form.{Form}
use Rattle.cg_base.specs.declared.form.Form.TheVariants.{Items}
use Rattle.cg_base.specs.declared.mode.Mode.{Mode}
use Rattle.cg_base.specs.Parts.{◌>>=◌, headed, elements_of}
use Rattle.cg_base.specs.Refusing.{least}
use Rattle.cg_attrs.specs.Clauses.{clauses}
use Rattle.cg_attrs.specs.Lookups.{optional_form}
use Rattle.cg_desc_laws_forms.specs.Forms.{IsClear, HasRules}
use Rattle.cg_desc_laws_forms.proofs.Clauses.{Stands, content_stands}
use Rattle.cg_desc_laws_forms.proofs.FormHardware.{hardware_by, hardware_law}
use Rattle.cg_desc_laws_forms.proofs.Rules.{elements_items}
use Rattle.cg_desc_elements.specs.declared.element.Element.{Element}
use Rattle.cg_desc_elements.specs.declared.element.Element.TheVariants as element
use Rattle.cg_desc_elements.specs.declared.kind.Kind.TheVariants as kinds
use Rattle.cg_desc_elements.specs.Elements.{kind_of}
use Rattle.cg_desc_elements.specs.Reading.{reader_for, element_faults}
use Rattle.cg_hw.specs.Hardware.{hardware_in, hardware_of, hardware_faults}
use Rattle.cg_hw.specs.Rules.{expression}
use Rattle.cg_hw.specs.Tables.{kind_named}
use Rattle.cg_hw.specs.declared.form.HardwareForm.{HardwareForm}
use Rattle.cg_model.specs.Formed.{is_formed_where, are_words}
use Rattle.cg_model.specs.declared.machine.Machine.{Machine}
use Rattle.cg_model_faults.specs.declared.fault.Purpose.TheVariants as purpose
use Rattle.cg_rtl_resolve.specs.declared.scope.Rule.TheVariants as rule
use Rattle.cg_rtl_resolve.specs.declared.scope.Scope.{Scope}
use Rattle.cg_desc_choices.specs.declared.written.Written.{Written}
use Rattle.cg_desc_data.specs.Hardware as described_hardware
use Rattle.cg_desc_scope.specs.Described.{Described, scope_in}
use Rattle.cg_desc_scope.specs.Texts.{of_form}
use Rattle.cg_desc_fault_rtl.specs.declared.asking.Naming.TheVariants as naming
use Rattle.cg_desc_fault_least.specs.Modes.{wanted, hardware_clause, modes_said}
use Rattle.cg_desc_fault_name.specs.E304 as e304
use Rattle.cg_desc_fault_name.specs.E306 as e306
use Rattle.cg_desc_references.specs.Clauses.{clauses_in, clauses_of}
use Rattle.cg_desc_machine.specs.Rules.{hardware_rule, ruled_hardware}
use Rattle.cg_desc_laws.proofs.Externs.{words_formed}
use Rattle.cg_desc_laws.proofs.Opened.{Opened, opened}
use Rattle.cg_desc_laws.proofs.Ruled.{clause_formed}
use Rattle.cg_desc_laws.proofs.Unsaid.{Unsaid, none_missing, none_of_clause}

pub same_rule : (content : List Form) → hardware_rule (Items content) ≡ expression content
unfolding hardware_rule
same_rule content = ap (λ o. o >>= expression) (elements_items content)

pub clear_in : (elements : List Form) (name : List ℕ) (x : Stands elements name) → IsClear (optional_form name elements >>= elements_of >>= expression) → IsClear (expression x.content)
clear_in elements name x h = subst IsClear (ap (λ o. option_map Items o >>= elements_of >>= expression) (content_stands elements name x) ∙ ap (λ o. o >>= expression) (elements_items x.content)) h

module _ (d : Described) (scope : Scope) (m : Machine) (number : ℕ) (f : Form) where
  pub record RulesFormed (form : HardwareForm) : Type 0 where
    pub get : is_formed_where (ruled_hardware d scope form).get ≡ true
    pub set : is_formed_where (ruled_hardware d scope form).set ≡ true

  -- what has to be shown of a form
  abbrev Shown : HardwareForm → Type 0
  Shown form =
      HasRules form → e306.e306 d scope m number (element.Hardware form) f (of_form number d.written) ≡ []
      → modes_said d scope m (clauses_of (kind_of (element.Hardware form)) f) (of_form number d.written) (element.Hardware form) ≡ [] → RulesFormed form

  shown : (head : List ℕ) (elements : List Form) → headed f ≡ Some (head, elements) → Shown (hardware_in elements)
  shown head elements is rules names modes =
      let form : HardwareForm = hardware_in elements in
      let e : Element = element.Hardware form in
      let ws : List Written = of_form number d.written in
      let mode : Mode = (described_hardware.hardware_of d.selection d.framing form).mode in
      let no_names : flat_map (e306.in_clause d scope m number ws e) (clauses elements) ≡ [] =
      sym (ap (λ o. flat_map (e306.in_clause d scope m number ws e) (clauses_in kinds.Hardware o)) is) ∙ names in
      let no_modes : flat_map (hardware_clause m (ruled_hardware d scope form)) (clauses elements) ≡ [] =
      sym (ap (λ o. flat_map (hardware_clause m (ruled_hardware d scope form)) (clauses_in kinds.Hardware o)) is) ∙ modes in
      record {
        get = clause_formed d.selection.at m (scope_in scope rule.Get None) refl form.name naming.Hardware (wanted purpose.Get (Some mode) None) elements (codes "get") hardware_rule expression same_rule
            (λ x. clear_in elements (codes "get") x rules.get)
            (λ x. none_missing d scope m number ws e elements (codes "get") x no_names)
            (λ x. none_of_clause (hardware_clause m (ruled_hardware d scope form)) elements (codes "get") x no_modes);
        set = clause_formed d.selection.at m (scope_in scope rule.Set (Some mode)) refl form.name naming.Hardware (wanted purpose.Set None (Some mode)) elements (codes "set") hardware_rule expression same_rule
            (λ x. clear_in elements (codes "set") x rules.set)
            (λ x. none_missing d scope m number ws e elements (codes "set") x no_names)
            (λ x. none_of_clause (hardware_clause m (ruled_hardware d scope form)) elements (codes "set") x no_modes);
      }

pub rules_formed : (d : Described) (scope : Scope) (m : Machine) (form : HardwareForm) (place : ℕ) (u : Unsaid d scope m place (element.Hardware form)) → RulesFormed d scope m (place + 1) u.top.form form
rules_formed d scope m form place u =
    let by : (hardware_of u.top.form ≡ Some form) × (least (element_faults u.top.form) ≡ least (hardware_faults u.top.form)) = hardware_by u.top.form (reader_for u.top.form) form u.is in
    let o : Opened kind_named (λ kind elements. hardware_in elements) u.top.form form = opened kind_named (λ kind elements. hardware_in elements) u.top.form form by.0 in
    subst (Shown d scope m (place + 1) u.top.form) o.gives (shown d scope m (place + 1) u.top.form o.head o.elements o.is)
    (hardware_law u.top.form form u.clear u.is) u.names u.modes

-- Its words are words.
pub form_words : (d : Described) (scope : Scope) (m : Machine) (form : HardwareForm) (place : ℕ) (u : Unsaid d scope m place (element.Hardware form)) → are_words (described_hardware.words d.selection form) ≡ true
form_words d scope m form place u =
    let by : (hardware_of u.top.form ≡ Some form) × (least (element_faults u.top.form) ≡ least (hardware_faults u.top.form)) = hardware_by u.top.form (reader_for u.top.form) form u.is in
    let o : Opened kind_named (λ kind elements. hardware_in elements) u.top.form form = opened kind_named (λ kind elements. hardware_in elements) u.top.form form by.0 in
    subst Given_words o.gives (words_here o.head o.elements o.is) (hardware_law u.top.form form u.clear u.is) u.kinds where
      Given_words : HardwareForm → Type 0
      Given_words x = HasRules x → e304.e304 d scope m (place + 1) (element.Hardware x) u.top.form (of_form (place + 1) d.written) ≡ [] → are_words (described_hardware.words d.selection x) ≡ true

      words_here : (head : List ℕ) (elements : List Form) → headed u.top.form ≡ Some (head, elements) → Given_words (hardware_in elements)
      words_here head elements is rules kinds_none =
          words_formed d scope m (place + 1) (of_form (place + 1) d.written) elements
          (sym (ap (λ o. flat_map (e304.in_clause d scope m (place + 1) (of_form (place + 1) d.written) (element.Hardware (hardware_in elements))) (clauses_in kinds.Hardware o)) is) ∙ kinds_none) rules.words
