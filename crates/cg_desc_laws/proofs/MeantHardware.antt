-- The rules of hardware of which nothing is said hold in hand.
use Rattle.std.proofs.Common.{◌≡◌, ◌∙◌, ℕ, ◌+◌, true, nat_le, List, [], ◌∷◌, ◌++◌, drop, Option, Some, None, refl, sym, ap, subst}
use Rattle.std.specs.Prelude.{codes}
use Rattle.std.specs.List.{flat_map}
use Rattle.std.specs.Option.{option_map}
use Rattle.cg_base.specs.declared.form.Form.{Form}
use Rattle.cg_base.specs.declared.form.Top.{Top}
use Rattle.cg_base.specs.declared.mode.Mode.{Mode}
use Rattle.cg_base.specs.Parts.{◌>>=◌, headed}
use Rattle.cg_base.specs.Refusing.{least}
use Rattle.cg_attrs.specs.Clauses.{Clause, clauses}
use Rattle.cg_attrs.specs.Lookups.{optional_form}
use Rattle.cg_desc_laws_forms.specs.Forms.{IsClear, HasRules}
use Rattle.cg_desc_laws_forms.proofs.Clauses.{Stands}
use Rattle.cg_desc_laws_forms.proofs.FormHardware.{hardware_by, hardware_law}
use Rattle.cg_desc_laws_forms.proofs.Lists.{append_none}
use Rattle.cg_rtl_laws.specs.Covered.{AreSilent}
use Rattle.cg_rtl_laws.specs.Numbered.{HasEach, no_text_at}
use Rattle.cg_desc_scope.specs.Described.{Described, scope_in}
use Rattle.cg_desc_scope.specs.Seen.{forms_of}
use Rattle.cg_desc_scope.specs.Texts.{texts_in, texts_of_clause, of_form, texts_by_kind, all_texts}
use Rattle.cg_desc_elements.specs.declared.element.Element.{Element}
use Rattle.cg_desc_elements.specs.declared.element.Element.TheVariants as element
use Rattle.cg_desc_elements.specs.declared.kind.Kind.TheVariants as kinds
use Rattle.cg_desc_elements.specs.Elements.{kind_of}
use Rattle.cg_desc_elements.specs.Reading.{reader_for, element_faults}
use Rattle.cg_hw.specs.Hardware.{hardware_in, hardware_of, hardware_faults}
use Rattle.cg_hw.specs.Rules.{expression}
use Rattle.cg_hw.specs.Tables.{kind_named}
use Rattle.cg_hw.specs.declared.form.HardwareForm.{HardwareForm}
use Rattle.cg_desc_names.specs.Table.{Table}
use Rattle.cg_model.specs.Formed.{expression as alone, depth, stands, is_formed, is_formed_where}
use Rattle.cg_model.specs.declared.hardware.Hardware.{Hardware}
use Rattle.cg_model.specs.declared.machine.Machine.{Machine}
use Rattle.cg_model_faults.specs.declared.fault.Purpose.TheVariants as purpose
use Rattle.cg_model_faults.specs.E306.{in_hardware}
use Rattle.cg_model_faults.specs.Elements.{judged_where, hardware_modes}
use Rattle.cg_model_faults.specs.Judging.{has_index, has_new_value}
use Rattle.cg_rtl_resolve.specs.Names.{rtl_of}
use Rattle.cg_rtl_resolve.specs.declared.scope.Rule.{Rule}
use Rattle.cg_rtl_resolve.specs.declared.scope.Rule.TheVariants as rule
use Rattle.cg_rtl_resolve.specs.declared.scope.Scope.{Scope}
use Rattle.cg_desc_choices.specs.declared.written.Written.{Written}
use Rattle.cg_desc_data.specs.Hardware as described_hardware
use Rattle.cg_desc_fault_rtl.specs.declared.asking.Naming.TheVariants as naming
use Rattle.cg_desc_fault_rtl.specs.Asking.{plain_asking, expression_of}
use Rattle.cg_desc_fault_rtl.specs.Expressions.{plain_where}
use Rattle.cg_desc_fault_rtl.specs.Judging.{of_expression, of_expressions}
use Rattle.cg_desc_fault_rtl.specs.E315 as e315
use Rattle.cg_desc_fault_least.specs.Modes.{hardware_clause, modes_said}
use Rattle.cg_desc_fault_name.specs.E304 as e304
use Rattle.cg_desc_fault_name.specs.E306 as e306
use Rattle.cg_desc_references.specs.Clauses.{clauses_in, clauses_of}
use Rattle.cg_desc_machine.specs.Rules.{hardware_rule, ruled_hardware}
use Rattle.cg_rtl_laws.proofs.Nodes.{second_true}
use Rattle.cg_rtl_uses.specs.Uses.{uses_of}
use Rattle.cg_desc_laws.proofs.Hardware as lawful
use Rattle.cg_desc_laws.proofs.Hardware.{same_rule, clear_in}
use Rattle.cg_desc_laws.proofs.Opened.{Opened, opened}
use Rattle.cg_desc_laws.proofs.Said.{uses_defined}
use Rattle.cg_desc_laws.proofs.Unsaid.{none_missing, none_of_clause}
use Rattle.cg_desc_laws.proofs.MeantEach.{each_in}
use Rattle.cg_desc_laws.proofs.MeantHeard.{Heard, silent_either}
use Rattle.cg_desc_laws.proofs.MeantNaming.{NamedHolds, read_there, clause_names}
use Rattle.cg_desc_laws.proofs.MeantQuiet.{Quiet, none_of_another, none_impure}
use Rattle.cg_desc_laws.proofs.MeantRules.{only_one, outside_both, modes_both, judged_none}
use Rattle.cg_desc_laws.proofs.MeantTexts.{told}

-- the expression of a rule is behind its formals
expression_text : (content : List Form) (f : Form) → expression content ≡ Some f → flat_map texts_in (drop 1 content) ≡ [] → texts_in f ≡ []
expression_text [] f is h = absurd cc
expression_text (a ∷ []) f is h = absurd cc
expression_text (a ∷ b ∷ []) f is h = ap texts_in (sym (found b f is)) ∙ (append_none (texts_in b) [] h).0 where
  form_or : Form → Option Form → Form
  form_or x None = x
  form_or x (Some y) = y

  found : (x y : Form) → Some x ≡ Some y → x ≡ y
  found x y e = ap (form_or x) e
expression_text (a ∷ b ∷ c ∷ fs) f is h = absurd cc

module _ (d : Described) (scope : Scope) (m : Machine) (each : HasEach scope m) (number : ℕ) (f : Form) where
  pub record RulesHold (form : HardwareForm) : Type 0 where
    pub get : NamedHolds m purpose.Get (Some (ruled_hardware d scope form).mode) None in_hardware (ruled_hardware d scope form).get
    pub set : NamedHolds m purpose.Set None (Some (ruled_hardware d scope form).mode) in_hardware (ruled_hardware d scope form).set

  -- where there is no text, no rule has an error
  rule_silent : (at : Table) (s : Scope) (own : List ℕ) (elements : List Form) (name : List ℕ) (x : Stands elements name) (g : Form) → expression x.content ≡ Some g → IsClear (expression x.content)
      → is_formed_where (option_map (rtl_of s) (optional_form name elements >>= hardware_rule)) ≡ true → of_expressions (e306.missing at m) (plain_where m own s naming.Hardware (expression x.content)) ≡ []
      → (m.texts ≡ [] → flat_map texts_in (drop 1 x.content) ≡ []) → (optional_form name elements >>= hardware_rule) ≡ expression x.content → AreSilent (no_text_at m) (uses_of s g)
  rule_silent at s own elements name x g is clear formed names texts reads =
      let faultless : IsClear (Some g) = subst IsClear is clear in
      let whole : is_formed (rtl_of s g) ≡ true = sym (ap (λ o. is_formed_where (option_map (rtl_of s) o)) (reads ∙ is)) ∙ formed in
      let deep : nat_le (depth (rtl_of s g)) 64 ≡ true = second_true (stands (rtl_of s g) alone) (nat_le (depth (rtl_of s g)) 64) whole in
      let named : of_expressions (e306.missing at m) (plain_where m own s naming.Hardware (Some g)) ≡ [] = subst (λ o. of_expressions (e306.missing at m) (plain_where m own s naming.Hardware o) ≡ []) is names in
      silent_either m (uses_of s g)
      (λ empty. told s m g faultless deep (expression_text x.content g is (texts empty)) (uses_defined at m (expression_of m s g (plain_asking own naming.Hardware)) refl (only_one (of_expression (e306.missing at m) (expression_of m s g (plain_asking own naming.Hardware))) named)))

  -- what has to be shown of a form
  abbrev Shown : HardwareForm → Type 0
  Shown form =
      HasRules form → is_formed_where (ruled_hardware d scope form).get ≡ true → is_formed_where (ruled_hardware d scope form).set ≡ true
      → e304.e304 d scope m number (element.Hardware form) f (of_form number d.written) ≡ []
      → e306.e306 d scope m number (element.Hardware form) f (of_form number d.written) ≡ []
      → e315.e315 d scope m (element.Hardware form) f (of_form number d.written) ≡ []
      → modes_said d scope m (clauses_of (kind_of (element.Hardware form)) f) (of_form number d.written) (element.Hardware form) ≡ []
      → (m.texts ≡ [] → texts_by_kind (kind_of (element.Hardware form)) f (of_form number d.written) ≡ []) → RulesHold form

  shown : (head : List ℕ) (elements : List Form) → headed f ≡ Some (head, elements) → Shown (hardware_in elements)
  unfolding has_index has_new_value
  shown head elements is rules get_formed set_formed kinds_none names says modes texts =
      let form : HardwareForm = hardware_in elements in
      let e : Element = element.Hardware form in
      let ws : List Written = of_form number d.written in
      let mode : Mode = (described_hardware.hardware_of d.selection d.framing form).mode in
      let no_kinds : flat_map (e304.in_clause d scope m number ws e) (clauses elements) ≡ [] =
      sym (ap (λ o. flat_map (e304.in_clause d scope m number ws e) (clauses_in kinds.Hardware o)) is) ∙ kinds_none in
      let no_names : flat_map (e306.in_clause d scope m number ws e) (clauses elements) ≡ [] =
      sym (ap (λ o. flat_map (e306.in_clause d scope m number ws e) (clauses_in kinds.Hardware o)) is) ∙ names in
      let no_says : flat_map (e315.in_clause d scope m ws e) (clauses elements) ≡ [] =
      sym (ap (λ o. flat_map (e315.in_clause d scope m ws e) (clauses_in kinds.Hardware o)) is) ∙ says in
      let no_modes : flat_map (hardware_clause m (ruled_hardware d scope form)) (clauses elements) ≡ [] =
      sym (ap (λ o. flat_map (hardware_clause m (ruled_hardware d scope form)) (clauses_in kinds.Hardware o)) is) ∙ modes in
      let no_texts : m.texts ≡ [] → flat_map texts_of_clause (clauses elements) ≡ [] = λ empty. sym (ap (λ o. flat_map texts_of_clause (clauses_in kinds.Hardware o)) is) ∙ texts empty in
      let at : Table = d.selection.at in
      let getting : Scope = scope_in scope rule.Get None in
      let setting : Scope = scope_in scope rule.Set (Some mode) in
      record {
        get = clause_names at m getting (each_in scope m each rule.Get None) refl form.name naming.Hardware (Some mode) None in_hardware refl elements (codes "get") hardware_rule expression same_rule
            (λ x. none_of_another d scope m number ws e elements (codes "get") x no_kinds)
            (λ x. none_missing d scope m number ws e elements (codes "get") x no_names)
            (λ x. none_impure d scope m ws e elements (codes "get") x no_says)
            (λ x. none_of_clause (hardware_clause m (ruled_hardware d scope form)) elements (codes "get") x no_modes)
            (λ x g here. rule_silent at getting form.name elements (codes "get") x g here (clear_in elements (codes "get") x rules.get) get_formed (none_missing d scope m number ws e elements (codes "get") x no_names)
            (λ empty. none_of_clause texts_of_clause elements (codes "get") x (no_texts empty))
            (read_there at m getting (each_in scope m each rule.Get None) refl form.name naming.Hardware (Some mode) None in_hardware refl elements (codes "get") hardware_rule expression same_rule x));
        set = clause_names at m setting (each_in scope m each rule.Set (Some mode)) (refl, refl) form.name naming.Hardware None (Some mode) in_hardware refl elements (codes "set") hardware_rule expression same_rule
            (λ x. none_of_another d scope m number ws e elements (codes "set") x no_kinds)
            (λ x. none_missing d scope m number ws e elements (codes "set") x no_names)
            (λ x. none_impure d scope m ws e elements (codes "set") x no_says)
            (λ x. none_of_clause (hardware_clause m (ruled_hardware d scope form)) elements (codes "set") x no_modes)
            (λ x g here. rule_silent at setting form.name elements (codes "set") x g here (clear_in elements (codes "set") x rules.set) set_formed (none_missing d scope m number ws e elements (codes "set") x no_names)
            (λ empty. none_of_clause texts_of_clause elements (codes "set") x (no_texts empty))
            (read_there at m setting (each_in scope m each rule.Set (Some mode)) (refl, refl) form.name naming.Hardware None (Some mode) in_hardware refl elements (codes "set") hardware_rule expression same_rule x));
      }

pub rules_hold : (d : Described) (scope : Scope) (m : Machine) (each : HasEach scope m) (tops : List Top) → m.texts ≡ all_texts d.selection (forms_of tops) d.written → (form : HardwareForm) (place : ℕ) (h : Heard d scope m tops place (element.Hardware form)) → RulesHold d scope m each (place + 1) h.quiet.unsaid.top.form form
rules_hold d scope m each tops same form place h =
    let top : Top = h.quiet.unsaid.top in
    let by : (hardware_of top.form ≡ Some form) × (least (element_faults top.form) ≡ least (hardware_faults top.form)) = hardware_by top.form (reader_for top.form) form h.quiet.unsaid.is in
    let o : Opened kind_named (λ kind elements. hardware_in elements) top.form form = opened kind_named (λ kind elements. hardware_in elements) top.form form by.0 in
    let r = lawful.rules_formed d scope m form place h.quiet.unsaid in
    subst (Shown d scope m each (place + 1) top.form) o.gives (shown d scope m each (place + 1) top.form o.head o.elements o.is)
    (hardware_law top.form form h.quiet.unsaid.clear h.quiet.unsaid.is) r.get r.set h.quiet.unsaid.kinds h.quiet.unsaid.names h.quiet.pure h.quiet.unsaid.modes (λ empty. h.texts (sym same ∙ empty))

pub hardware_moded : (d : Described) (scope : Scope) (m : Machine) (each : HasEach scope m) (form : HardwareForm) (number : ℕ) (f : Form) → RulesHold d scope m each number f form → hardware_modes m (ruled_hardware d scope form) ≡ []
hardware_moded d scope m each form number f r =
    let x : Hardware = ruled_hardware d scope form in
    judged_none m (judged_where purpose.Get (Some x.mode) None x.get ++ judged_where purpose.Set None (Some x.mode) x.set)
    (outside_both (judged_where purpose.Get (Some x.mode) None x.get) (judged_where purpose.Set None (Some x.mode) x.set) r.get.outside r.set.outside)
    (modes_both m (judged_where purpose.Get (Some x.mode) None x.get) (judged_where purpose.Set None (Some x.mode) x.set) r.get.modes r.set.modes)
