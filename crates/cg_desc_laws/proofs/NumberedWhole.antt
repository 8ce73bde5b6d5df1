-- All of it together: each number outside of expressions is that of something that is there.
use Rattle.std.proofs.Common.{◌≡◌, ◌∙◌, List, [], Option, Some, None, sym, ap, subst}
use Rattle.std.specs.List.{filter_map}
use Rattle.std.specs.Option.{option_map}
use Rattle.cg_base.specs.declared.form.Top.{Top}
use Rattle.cg_desc_choices.specs.declared.written.Written.{Written}
use Rattle.cg_desc_laws_forms.proofs.Lists.{the_found}
use Rattle.cg_desc_data.specs.Selecting.{Selection}
use Rattle.cg_desc_scope.specs.Described.{Described, described, written_in}
use Rattle.cg_desc_elements.specs.Reading.{element_at, first_refusal}
use Rattle.cg_desc_fault_least.specs.Least.{by_elements}
use Rattle.cg_insn.specs.declared.form.InstructionForm.{InstructionForm}
use Rattle.cg_desc_names.specs.Table.{table_of}
use Rattle.cg_model.specs.declared.field.Multi.{Multi}
use Rattle.cg_model.specs.declared.insn.Insn.{Insn}
use Rattle.cg_model.specs.declared.insn.MacroInsn.{MacroInsn}
use Rattle.cg_model.specs.declared.machine.Machine.{Machine}
use Rattle.cg_model.specs.declared.operand.Operand.{Operand}
use Rattle.cg_model_faults.specs.E306.{no_subs, of_operand, of_shape, of_macro}
use Rattle.cg_rtl_resolve.specs.declared.scope.Scope.{Scope}
use Rattle.cg_desc_machine.specs.Instructions.{form_of, insn_by, insn_of}
use Rattle.cg_desc_machine.specs.Machines.{machine_of}
use Rattle.cg_desc_laws.proofs.CountedGiven.{all_given}
use Rattle.cg_desc_laws.proofs.Members.{AllHold, IsIn, held}
use Rattle.cg_desc_laws.specs.Numbered.{AreNumbered}
use Rattle.cg_desc_laws.proofs.NumberedElements.{bundle_there, multis_there, operands_there}
use Rattle.cg_desc_laws.proofs.NumberedInstructions.{shape_there}
use Rattle.cg_desc_laws.proofs.NumberedMacros.{macros_there}
use Rattle.cg_desc_laws.proofs.NumberedRegisters.{RulesOnRegister, registers_law}
use Rattle.std.proofs.Common.{refl, Bool, true, false, not, ◌&&◌, ◌||◌, map, is_some}
use Rattle.cg_base.specs.declared.form.Form.{Form}
use Rattle.cg_base.specs.Parts.{◌>>=◌}
use Rattle.cg_base.specs.Refusing.{least}
use Rattle.cg_desc_laws_forms.proofs.Framing.{given_here}
use Rattle.cg_desc_laws_forms.proofs.Hardware.{hardware_given}
use Rattle.cg_desc_laws_forms.proofs.Members.{IsMember}
use Rattle.cg_desc_laws_forms.proofs.Elements.{Given}
use Rattle.cg_desc_laws_forms.proofs.FormHardware.{hardware_by}
use Rattle.cg_desc_data.specs.Selecting.{members}
use Rattle.cg_desc_data.specs.Hardware.{built_in, kind_named, type_of}
use Rattle.cg_desc_data.specs.Numbering.{hardware_in}
use Rattle.cg_desc_scope.specs.Described.{scope_in}
use Rattle.cg_desc_elements.specs.declared.element.Element.{Element}
use Rattle.cg_desc_elements.specs.Reading.{reader_for, element_faults}
use Rattle.cg_hw.specs.Hardware.{hardware_of, hardware_faults}
use Rattle.cg_hw.specs.declared.form.HardwareForm.{HardwareForm}
use Rattle.cg_model.specs.Placed.{is_register}
use Rattle.cg_model_faults.specs.declared.fault.MachineFault.{MachineFault}
use Rattle.cg_model_faults.specs.declared.fault.Said.TheVariants as said
use Rattle.cg_model.specs.declared.hardware.Hardware.{Hardware}
use Rattle.cg_model.specs.declared.hardware.HwKind.TheVariants.{Register}
use Rattle.cg_model_faults.specs.E304.{no_register}
use Rattle.cg_model_faults.specs.Finding.{at_place, where_so}
use Rattle.cg_rtl_resolve.specs.Names.{rtl_of}
use Rattle.cg_rtl_resolve.specs.declared.scope.Rule.TheVariants as rule
use Rattle.cg_desc_machine.specs.Rules.{hardware_rule, ruled_hardware}
use Rattle.cg_desc_laws.proofs.CountedGiven.{all_mapped, each_member}
use Rattle.cg_desc_laws.proofs.Members.{all_append}

module _ (s : Selection) (scope : Scope) (m : Machine) (tops : List Top) (alone : first_refusal tops ≡ None) (elements : s.elements ≡ filter_map element_at tops) (none : by_elements (described s) scope m tops ≡ None) (table : s.at ≡ table_of s.machine s.isa s.elements) where
  abbrev mm : Machine
  mm = machine_of (described s) scope

  insn_there : (w : Written) → IsIn (written_in s) w → (i : Insn) → insn_of (described s) scope w ≡ Some i → of_shape mm i.pieces i.parts ≡ []
  insn_there w there i is = by (form_of s w) is where
    by : (o : Option InstructionForm) → option_map (insn_by (described s) scope w) o ≡ Some i → of_shape mm i.pieces i.parts ≡ []
    by None e = absurd cc
    by (Some form) e = subst (λ (x : Insn). of_shape mm x.pieces x.parts ≡ []) (the_found (insn_by (described s) scope w form) i e) (shape_there s scope table w there form)

  insns_there : AllHold (λ i. of_shape mm i.pieces i.parts ≡ []) mm.insns
  insns_there = all_given (λ (i : Insn). of_shape mm i.pieces i.parts ≡ []) (insn_of (described s) scope) (written_in s) insn_there

  -- hardware with a rule
  one_register : (e : Element) (form : HardwareForm) → IsMember s hardware_in e form → no_register (ruled_hardware (described s) scope form) ≡ []
  one_register e form x =
      let g : Given e = given_here tops s e alone elements x.there in
      let by_form : (hardware_of g.top.form ≡ Some form) × (least (element_faults g.top.form) ≡ least (hardware_faults g.top.form)) = hardware_by g.top.form (reader_for g.top.form) form (g.is ∙ ap Some (hardware_given e form x.gives)) in
      by (registers_law g.top.form form (sym by_form.1 ∙ g.clear) by_form.0) form.get form.set refl refl where
        h : Hardware
        h = ruled_hardware (described s) scope form

        fault : MachineFault
        fault = at_place 304 0 said.Own said.Nothing

        on : kind_named (type_of form).0 ≡ Register → where_so (not (is_register h.kind) && (is_some h.get || is_some h.set)) fault ≡ []
        on is = ap (λ k. where_so (not (is_register k) && (is_some h.get || is_some h.set)) fault) is

        no_rule : (b : Bool) → where_so (not b && (false || false)) fault ≡ []
        no_rule true = refl
        no_rule false = refl

        by : RulesOnRegister form → (get set : Option Form) → form.get ≡ get → form.set ≡ set → where_so (not (is_register h.kind) && (is_some h.get || is_some h.set)) fault ≡ []
        by r (Some f) set is other = on (r.get (ap is_some is))
        by r None (Some f) is other = on (r.set (ap is_some other))
        by r None None is other =
            ap (λ o. where_so (not (is_register h.kind) && (is_some (option_map (rtl_of (scope_in scope rule.Get None)) (o >>= hardware_rule)) || is_some h.set)) fault) is
            ∙ ap (λ o. where_so (not (is_register h.kind) && (false || is_some (option_map (rtl_of (scope_in scope rule.Set (Some h.mode))) (o >>= hardware_rule)))) fault) other ∙ no_rule (is_register h.kind)

  hardware_there : AllHold (λ h. no_register h ≡ []) mm.hardware
  hardware_there =
      all_append (λ (h : Hardware). no_register h ≡ []) (built_in (described s).framing) (map (ruled_hardware (described s) scope) (members s hardware_in)) (refl, (refl, (refl, (refl, (refl, tt)))))
      (all_mapped (λ (h : Hardware). no_register h ≡ []) (ruled_hardware (described s) scope) (members s hardware_in) (each_member s hardware_in (λ form. no_register (ruled_hardware (described s) scope form) ≡ []) one_register))

  pub numbers_law : AreNumbered (machine_of (described s) scope)
  numbers_law = record {
    bundle = bundle_there s scope;
    multis = λ k x is. held (λ (y : Multi). no_subs mm y.subs ≡ []) mm.multis x (multis_there s scope) (record { place = k; is = is });
    hardware = λ k h is. held (λ (y : Hardware). no_register y ≡ []) mm.hardware h hardware_there (record { place = k; is = is });
    operands = λ k o is. held (λ (y : Operand). of_operand mm y ≡ []) mm.operands o (operands_there s scope) (record { place = k; is = is });
    insns = λ k i is. held (λ (y : Insn). of_shape mm y.pieces y.parts ≡ []) mm.insns i insns_there (record { place = k; is = is });
    macros = λ k x is. held (λ (y : MacroInsn). of_macro mm y ≡ []) mm.macros x (macros_there s scope m tops alone elements none table) (record { place = k; is = is });
  }

-- of a machine and a description that are known to be those of a selection
pub numbers_of : (d : Described) (s : Selection) (scope : Scope) (m : Machine) (tops : List Top) → d ≡ described s → m ≡ machine_of d scope → first_refusal tops ≡ None → s.elements ≡ filter_map element_at tops → by_elements d scope m tops ≡ None → s.at ≡ table_of s.machine s.isa s.elements → AreNumbered m
numbers_of d s scope m tops same is alone elements none table =
    subst AreNumbered (sym (is ∙ ap (λ x. machine_of x scope) same)) (numbers_law s scope m tops alone elements (subst (λ x. by_elements x scope m tops ≡ None) same none) table)

pub ruleset numbering_law = (numbers_of)
