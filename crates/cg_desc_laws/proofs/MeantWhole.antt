-- The expressions of a machine, where nothing is said of its description's forms.
use Rattle.std.proofs.Common.{◌≡◌, ◌∙◌, ℕ, suc, ◌+◌, true, List, [], ◌∷◌, ◌++◌, map, length, Option, Some, None, slice_get, refl, sym, ap, subst, arith}
use Rattle.std.specs.List.{filter_map, flat_map}
use Rattle.cg_base.specs.declared.form.Top.{Top}
use Rattle.cg_desc_laws_forms.proofs.Framing.{IsElement}
use Rattle.cg_desc_laws_forms.proofs.Hardware.{hardware_given}
use Rattle.cg_desc_laws_forms.proofs.Kept.{field_given, multi_given}
use Rattle.cg_desc_laws_forms.proofs.Members.{IsMember}
use Rattle.cg_rtl_laws.specs.Numbered.{HasEach}
use Rattle.cg_rtl_laws.proofs.Covered.{length_mapped}
use Rattle.cg_rtl_laws.proofs.Numbered.{length_both}
use Rattle.cg_desc_elements.specs.declared.element.Element.{Element}
use Rattle.cg_desc_elements.specs.declared.element.Element.TheVariants as element
use Rattle.cg_desc_elements.specs.Reading.{element_at, first_refusal}
use Rattle.cg_desc_fault_least.specs.Least.{by_elements}
use Rattle.cg_hw.specs.declared.form.HardwareForm.{HardwareForm}
use Rattle.cg_ifield.specs.declared.form.FieldForm.TheVariants as field
use Rattle.cg_ifield.specs.declared.form.MultiForm.{MultiForm}
use Rattle.cg_ifield.specs.declared.form.PlainForm.{PlainForm}
use Rattle.cg_insn.specs.declared.form.InsnForm.TheVariants as insn
use Rattle.cg_insn.specs.declared.form.InstructionForm.{InstructionForm}
use Rattle.cg_desc_names.specs.Table.{built_in_hardware}
use Rattle.cg_model.specs.declared.field.Field.{Field}
use Rattle.cg_model.specs.declared.field.Multi.{Multi}
use Rattle.cg_model.specs.declared.hardware.Hardware.{Hardware}
use Rattle.cg_model_faults.specs.declared.fault.Purpose.TheVariants as purpose
use Rattle.cg_model.specs.declared.insn.Insn.{Insn}
use Rattle.cg_model.specs.declared.machine.Machine.{Machine}
use Rattle.cg_model_faults.specs.E306.{in_hardware}
use Rattle.cg_model_faults.specs.Elements.{cells_of, names_of, where_there, judged_where}
use Rattle.cg_model_faults.specs.Judging.{judged_faults}
use Rattle.cg_rtl_resolve.specs.declared.scope.Scope.{Scope}
use Rattle.cg_desc_choices.specs.declared.written.Written.{Written}
use Rattle.cg_desc_data.specs.Framing.{framing}
use Rattle.cg_desc_data.specs.Hardware.{built_in}
use Rattle.cg_desc_data.specs.Numbering.{field_in, multi_in, hardware_in, operand_in, numbers}
use Rattle.cg_desc_data.specs.Operands.{operand_of}
use Rattle.cg_desc_data.specs.Selecting.{Selection, takes_part_in, members}
use Rattle.cg_desc_scope.specs.Bare.{bare_names, bare_operand}
use Rattle.cg_desc_scope.specs.Described.{Described, described, written_in, whole_scope}
use Rattle.cg_desc_scope.specs.Seen.{forms_of}
use Rattle.cg_desc_scope.specs.Texts.{of_form, all_texts}
use Rattle.cg_desc_machine.specs.Instructions.{insn_by, insns_of}
use Rattle.cg_desc_machine.specs.Machines.{machine_of}
use Rattle.cg_desc_machine.specs.Rules.{ruled_field, ruled_fields, ruled_multi, ruled_multis, ruled_hardware, ruled_hardwares}
use Rattle.cg_desc_laws.proofs.FittedInsns.{all_insns, all_members, all_mapped}
use Rattle.cg_desc_laws.proofs.Members.{AllHold, IsIn, held, all_append}
use Rattle.cg_desc_laws.proofs.Origins.{FromForm, from_forms}
use Rattle.cg_desc_laws.proofs.WholeInsns.{asserted_so}
use Rattle.cg_desc_laws.proofs.WholeOwn.{semantics_formed}
use Rattle.cg_desc_laws.specs.Meant.{FieldMeant, MultiMeant, HardwareMeant, InsnMeant, AreMeant}
use Rattle.cg_desc_laws.proofs.MeantFields as fields
use Rattle.cg_desc_laws.proofs.MeantHardware as hardwares
use Rattle.cg_desc_laws.proofs.MeantHeard.{Heard, heard}
use Rattle.cg_desc_laws.proofs.MeantInsns.{InsnHolds, insn_holds}
use Rattle.cg_desc_laws.proofs.MeantMultis as multis
use Rattle.cg_desc_laws.proofs.MeantQuiet.{Quiet}

-- A machine has an element for each name of its description.
module _ (s : Selection) (tops : List Top) where
  fields_named : length (whole_scope s (forms_of tops)).fields ≡ length (ruled_fields (described s) (whole_scope s (forms_of tops)))
  fields_named = length_mapped (λ (form : PlainForm). form.name) (members s field_in) ∙ sym (length_mapped (ruled_field (described s) (whole_scope s (forms_of tops))) (members s field_in))

  multis_named : length (whole_scope s (forms_of tops)).multis ≡ length (ruled_multis (described s) (whole_scope s (forms_of tops)))
  multis_named = length_mapped (λ (form : MultiForm). form.name) (members s multi_in) ∙ sym (length_mapped (ruled_multi (described s) (whole_scope s (forms_of tops))) (members s multi_in))

  hardware_named : length (whole_scope s (forms_of tops)).hardware ≡ length (ruled_hardwares (described s) (whole_scope s (forms_of tops)))
  hardware_named =
      length_both built_in_hardware (map (λ (form : HardwareForm). form.name) (members s hardware_in))
      ∙ ap (λ n. 5 + n) (length_mapped (λ (form : HardwareForm). form.name) (members s hardware_in) ∙ sym (length_mapped (ruled_hardware (described s) (whole_scope s (forms_of tops))) (members s hardware_in)))
      ∙ sym (length_both (built_in (framing s)) (map (ruled_hardware (described s) (whole_scope s (forms_of tops))) (members s hardware_in)))

  operands_named : length (whole_scope s (forms_of tops)).operands ≡ length (described s).operands
  operands_named =
      length_both (map (λ (form : _). form.name) (members s operand_in)) (bare_names s.at (written_in s))
      ∙ ap (λ n. n + length (bare_names s.at (written_in s))) (length_mapped (λ (form : _). form.name) (members s operand_in) ∙ sym (length_mapped (operand_of (numbers s)) (members s operand_in)))
      ∙ ap (λ n. length (map (operand_of (numbers s)) (members s operand_in)) + n) (sym (length_mapped (bare_operand (numbers s) (described s).fields (described s).multis) (bare_names s.at (written_in s))))
      ∙ sym (length_both (map (operand_of (numbers s)) (members s operand_in)) (map (bare_operand (numbers s) (described s).fields (described s).multis) (bare_names s.at (written_in s))))

  pub has_each : HasEach (whole_scope s (forms_of tops)) (machine_of (described s) (whole_scope s (forms_of tops)))
  has_each = record { fields = fields_named; multis = multis_named; hardware = hardware_named; operands = operands_named; texts = refl }

module _ (s : Selection) (tops : List Top) (alone : first_refusal tops ≡ None) (elements : s.elements ≡ filter_map element_at tops) where
  abbrev scope : Scope
  scope = whole_scope s (forms_of tops)

  abbrev m : Machine
  m = machine_of (described s) (whole_scope s (forms_of tops))

  module _ (none : by_elements (described s) (whole_scope s (forms_of tops)) (machine_of (described s) (whole_scope s (forms_of tops))) tops ≡ None) where
    each : HasEach (whole_scope s (forms_of tops)) (machine_of (described s) (whole_scope s (forms_of tops)))
    each = has_each s tops

    at_element : (e f : Element) → e ≡ f → (x : IsElement s.elements e) → takes_part_in s e ≡ true → Heard (described s) (whole_scope s (forms_of tops)) (machine_of (described s) (whole_scope s (forms_of tops))) tops x.place f
    at_element e f same x part =
        subst (Heard (described s) (whole_scope s (forms_of tops)) (machine_of (described s) (whole_scope s (forms_of tops))) tops x.place) same
        (heard (described s) (whole_scope s (forms_of tops)) (machine_of (described s) (whole_scope s (forms_of tops))) tops alone elements none e x part)

    one_field : (e : Element) (form : PlainForm) → IsMember s field_in e form → FieldMeant m (ruled_field (described s) scope form)
    one_field e form x =
        let h = at_element e (element.Field (field.Plain form)) (field_given e form x.gives) x.there x.part in
        let r = fields.rules_hold (described s) (whole_scope s (forms_of tops)) (machine_of (described s) (whole_scope s (forms_of tops))) each form x.there.place h.quiet in
        record {
          encode_cells = r.encode.cells;
          decode_cells = r.decode.cells;
          encode_numbers = r.encode.numbers;
          decode_numbers = r.decode.numbers;
          encode_purity = r.encode.purity;
          decode_purity = r.decode.purity;
          modes = fields.field_moded (described s) (whole_scope s (forms_of tops)) (machine_of (described s) (whole_scope s (forms_of tops))) each form (x.there.place + 1) h.quiet.unsaid.top.form r;
        }

    one_multi : (e : Element) (form : MultiForm) → IsMember s multi_in e form → MultiMeant m (ruled_multi (described s) scope form)
    one_multi e form x =
        let h = at_element e (element.Field (field.Multi form)) (multi_given e form x.gives) x.there x.part in
        let r = multis.rules_hold (described s) (whole_scope s (forms_of tops)) (machine_of (described s) (whole_scope s (forms_of tops))) each form x.there.place h.quiet in
        record {
          insert_cells = r.cells;
          extract_cells = r.extract.cells;
          insert_numbers = r.numbers;
          extract_numbers = r.extract.numbers;
          insert_purity = r.purity;
          extract_purity = r.extract.purity;
          modes = r.modes;
        }

    one_hardware : (e : Element) (form : HardwareForm) → IsMember s hardware_in e form → HardwareMeant m (ruled_hardware (described s) scope form)
    one_hardware e form x =
        let h = at_element e (element.Hardware form) (hardware_given e form x.gives) x.there x.part in
        let r = hardwares.rules_hold (described s) (whole_scope s (forms_of tops)) (machine_of (described s) (whole_scope s (forms_of tops))) each tops refl form x.there.place h in
        record {
          get_cells = r.get.cells;
          set_cells = r.set.cells;
          get_names = r.get.names;
          set_names = r.set.names;
          modes = hardwares.hardware_moded (described s) (whole_scope s (forms_of tops)) (machine_of (described s) (whole_scope s (forms_of tops))) each form (x.there.place + 1) h.quiet.unsaid.top.form r;
        }

    one_insn : (w : Written) → IsIn (written_in s) w → (form : InstructionForm) → InsnMeant m (insn_by (described s) scope w form)
    one_insn w i form =
        let o : FromForm s w = held (FromForm s) (written_in s) w (from_forms s) i in
        let h = heard (described s) (whole_scope s (forms_of tops)) (machine_of (described s) (whole_scope s (forms_of tops))) tops alone elements none (element.Insn (insn.Instruction o.form)) (record { place = o.place; is = o.is }) o.part in
        let number : w.form ≡ o.place + 1 = o.number ∙ behind o.place in
        let formed = semantics_formed (described s) (whole_scope s (forms_of tops)) (machine_of (described s) (whole_scope s (forms_of tops))) o.form o.place h.quiet.unsaid refl w i number in
        let r = insn_holds (described s) (whole_scope s (forms_of tops)) refl (machine_of (described s) (whole_scope s (forms_of tops))) each o.form o.place h.quiet w i number o.chosen (asserted_so s w o) formed h.texts form in
        record { cells = r.cells; names = r.names; purity = r.purity; modes = r.modes } where
          behind : (k : ℕ) → suc k ≡ k + 1
          behind k = omega arith

    without_rules : (h : Hardware) → h.get ≡ None → h.set ≡ None → HardwareMeant m h
    without_rules h get set = record {
      get_cells = ap (where_there (cells_of m)) get;
      set_cells = ap (where_there (cells_of m)) set;
      get_names = ap (where_there (names_of m in_hardware)) get;
      set_names = ap (where_there (names_of m in_hardware)) set;
      modes = ap (λ o. judged_faults m (judged_where purpose.Get (Some h.mode) None o ++ judged_where purpose.Set None (Some h.mode) h.set)) get ∙ ap (λ o. judged_faults m (judged_where purpose.Set None (Some h.mode) o)) set;
    }

    built_in_meant : AllHold (HardwareMeant m) (built_in (framing s))
    built_in_meant = (without_rules _ refl refl, (without_rules _ refl refl, (without_rules _ refl refl, (without_rules _ refl refl, (without_rules _ refl refl, tt)))))

    all_fields : AllHold (FieldMeant m) (ruled_fields (described s) scope)
    all_fields = all_mapped (ruled_field (described s) scope) (FieldMeant m) (members s field_in) (all_members s field_in (λ form. FieldMeant m (ruled_field (described s) scope form)) one_field)

    all_multis : AllHold (MultiMeant m) (ruled_multis (described s) scope)
    all_multis = all_mapped (ruled_multi (described s) scope) (MultiMeant m) (members s multi_in) (all_members s multi_in (λ form. MultiMeant m (ruled_multi (described s) scope form)) one_multi)

    all_hardware : AllHold (HardwareMeant m) (ruled_hardwares (described s) scope)
    all_hardware =
        all_append (HardwareMeant m) (built_in (framing s)) (map (ruled_hardware (described s) scope) (members s hardware_in)) built_in_meant
        (all_mapped (ruled_hardware (described s) scope) (HardwareMeant m) (members s hardware_in) (all_members s hardware_in (λ form. HardwareMeant m (ruled_hardware (described s) scope form)) one_hardware))

    pub meant_law : AreMeant (machine_of (described s) (whole_scope s (forms_of tops)))
    meant_law = record {
      fields = λ k f is. held (FieldMeant m) (ruled_fields (described s) scope) f all_fields (record { place = k; is = is });
      multis = λ k x is. held (MultiMeant m) (ruled_multis (described s) scope) x all_multis (record { place = k; is = is });
      hardware = λ k h is. held (HardwareMeant m) (ruled_hardwares (described s) scope) h all_hardware (record { place = k; is = is });
      insns = λ k i is. held (InsnMeant m) (insns_of (described s) scope) i (all_insns (described s) scope (InsnMeant m) one_insn) (record { place = k; is = is });
    }

-- of a description that is known to be that of a selection, in the scope of its names
pub meant_of : (d : Described) (s : Selection) (scope : Scope) (m : Machine) (tops : List Top) → d ≡ described s → scope ≡ whole_scope s (forms_of tops) → m ≡ machine_of d scope → first_refusal tops ≡ None → s.elements ≡ filter_map element_at tops → by_elements d scope m tops ≡ None → AreMeant m
meant_of d s scope m tops same names own alone elements none =
    let whole : m ≡ machine_of (described s) (whole_scope s (forms_of tops)) = own ∙ ap (λ x. machine_of x scope) same ∙ ap (machine_of (described s)) names in
    let in_scope : by_elements (described s) (whole_scope s (forms_of tops)) m tops ≡ None =
    subst (λ x. by_elements (described s) x m tops ≡ None) names (subst (λ x. by_elements x scope m tops ≡ None) same none) in
    subst AreMeant (sym whole) (meant_law s tops alone elements (subst (λ x. by_elements (described s) (whole_scope s (forms_of tops)) x tops ≡ None) whole in_scope))

pub ruleset meaning_law = (meant_of)
