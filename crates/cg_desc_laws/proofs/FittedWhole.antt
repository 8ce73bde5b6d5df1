-- The bits and slots of a description's machine, where nothing is said of its forms.
use Rattle.std.proofs.Common.{◌≡◌, ◌∙◌, ℕ, ◌+◌, true, if◌then◌else◌, List, map, length, ◌≤◌, [], Option, Some, None, slice_get, refl, sym, ap, subst}
use Rattle.std.specs.List.{filter_map}
use Rattle.std.specs.Option.{option_map}
use Rattle.cg_base.specs.declared.form.Top.{Top}
use Rattle.cg_desc_laws_forms.proofs.Framing.{IsElement}
use Rattle.cg_desc_laws_forms.proofs.Members.{IsMember}
use Rattle.cg_attrs.specs.declared.frame.Frame.TheVariants as frame
use Rattle.cg_attrs.specs.declared.frame.IsaForm.{IsaForm}
use Rattle.cg_desc_laws_forms.proofs.Lists.{append_none, the_found}
use Rattle.cg_desc_elements.specs.declared.element.Element.{Element}
use Rattle.cg_desc_elements.specs.declared.element.Element.TheVariants as element
use Rattle.cg_desc_elements.specs.Reading.{element_at, first_refusal}
use Rattle.cg_desc_fault_least.specs.Least.{by_elements}
use Rattle.cg_ifield.specs.declared.form.FieldForm.TheVariants as field
use Rattle.cg_ifield.specs.declared.form.PlainForm.{PlainForm}
use Rattle.cg_insn.specs.declared.form.InsnForm.TheVariants as insn
use Rattle.cg_insn.specs.declared.form.InstructionForm.{InstructionForm}
use Rattle.cg_insn.specs.declared.form.MacroForm.{MacroForm}
use Rattle.cg_model_faults.specs.E309.{misplaced}
use Rattle.cg_model_faults.specs.E316.{no_bundle_bit}
use Rattle.cg_model_faults.specs.E313.{slot_operands, unmatched, ungiven}
use Rattle.cg_model.specs.declared.insn.MacroInsn.{MacroInsn}
use Rattle.cg_model.specs.declared.machine.Machine.{Machine}
use Rattle.cg_rtl_resolve.specs.declared.scope.Scope.{Scope}
use Rattle.cg_desc_choices.specs.declared.written.Written.{Written}
use Rattle.cg_desc_laws.specs.InHand.{IsChosen}
use Rattle.cg_desc_data.specs.Selecting.{Selection, takes_part_in, members}
use Rattle.cg_desc_data.specs.Extents.{extent_of}
use Rattle.cg_desc_data.specs.Framing.{framing, isa_form}
use Rattle.cg_desc_data.specs.Numbering.{field_in, numbered}
use Rattle.cg_desc_insns.specs.Written.{all_pieces}
use Rattle.cg_desc_scope.specs.Described.{Described, all_operand_names, described, written_in}
use Rattle.cg_desc_scope.specs.Texts.{of_form}
use Rattle.cg_desc_fault_format.specs.E316.{of_bundle, of_isa, of_insns}
use Rattle.cg_desc_fault_format.specs.E313.{is_lacking, in_format}
use Rattle.cg_desc_laws.proofs.Members.{AllHold, IsIn, held}
use Rattle.cg_desc_laws.proofs.WholeIsa.{IsSelected, isa_selected}
use Rattle.cg_desc_laws.proofs.WholeWidth.{field_fits}
use Rattle.cg_desc_laws.proofs.Origins.{FromForm, from_forms}
use Rattle.cg_desc_machine.specs.Instructions.{behind_format, slot_names, number_or_none, parts_of, pieces_of, insn_by, insns_of}
use Rattle.cg_desc_machine.specs.Macros.{macro_in, macro_slots, target_of, givens, macro_by, macro_of, macros_of}
use Rattle.cg_desc_machine.specs.Machines.{machine_of}
use Rattle.cg_desc_machine.specs.Rules.{ruled_field, ruled_fields}
use Rattle.cg_desc_laws.specs.Fitting.{InsnFits, MacroFits, AreFitting}
use Rattle.cg_desc_laws.proofs.FittedBits.{parts_apart, constants_silent, parts_free}
use Rattle.cg_desc_laws.proofs.FittedBundle.{bundle_silent}
use Rattle.cg_desc_laws.proofs.FittedConstants.{FieldOf, field_of_name, all_constants}
use Rattle.cg_desc_laws.proofs.FittedDelimited.{own_operands, slots_delimited, macro_delimited}
use Rattle.cg_desc_laws.proofs.FittedExtents.{Lies}
use Rattle.cg_desc_laws.proofs.FittedFields.{form_lies, field_placed}
use Rattle.cg_desc_laws.proofs.FittedFormats.{syntax_silent, format_silent, slots_distinct, slots_written}
use Rattle.cg_desc_laws.proofs.FittedInsns.{all_given, all_insns, all_members, all_mapped}
use Rattle.cg_desc_laws.proofs.FittedKept.{IsKept, kept_law}
use Rattle.cg_desc_laws.proofs.FittedKnown.{slots_known}
use Rattle.cg_desc_laws.proofs.FittedMacroSlots.{macro_distinct, macro_known, macro_written}
use Rattle.cg_desc_laws.proofs.FittedMacros.{macro_once, macro_gives, macro_used}
use Rattle.cg_desc_laws.proofs.FittedMatched.{all_matched}
use Rattle.cg_desc_laws.proofs.FittedParts.{constants_of_fields}
use Rattle.cg_desc_laws.proofs.FittedSilent.{Silent, silent}
use Rattle.cg_desc_laws.proofs.FittedSlots.{not_twice}
use Rattle.cg_desc_laws.proofs.FittedTargets.{At, aimed_at, emitted_slots}

-- which form a member gave
field_given : (e : Element) (form : PlainForm) → field_in e ≡ Some form → e ≡ element.Field (field.Plain form)
field_given (element.Field (field.Plain other)) form is = ap (λ o. element.Field (field.Plain (or other o))) is where
  or : PlainForm → Option PlainForm → PlainForm
  or x None = x
  or x (Some y) = y
field_given _ form is = absurd cc

macro_given : (e : Element) (form : MacroForm) → macro_in e ≡ Some form → e ≡ element.Insn (insn.Macro form)
macro_given (element.Insn (insn.Macro other)) form is = ap (λ o. element.Insn (insn.Macro (or other o))) is where
  or : MacroForm → Option MacroForm → MacroForm
  or x None = x
  or x (Some y) = y
macro_given _ form is = absurd cc

module _ (s : Selection) (scope : Scope) (m : Machine) (tops : List Top) (alone : first_refusal tops ≡ None) (elements : s.elements ≡ filter_map element_at tops) (none : by_elements (described s) scope m tops ≡ None) (kept : IsKept s) (own : m ≡ machine_of (described s) scope) where
  at_element : (e f : Element) → e ≡ f → (x : IsElement s.elements e) → takes_part_in s e ≡ true → Silent (described s) scope m x.place f
  at_element e f same x part = subst (Silent (described s) scope m x.place) same (silent (described s) scope m tops alone elements none e x part)

  one_field : (e : Element) (form : PlainForm) → IsMember s field_in e form → misplaced (ruled_field (described s) scope form) ≡ []
  one_field e form x =
      let u : Silent (described s) scope m x.there.place (element.Field (field.Plain form)) = at_element e (element.Field (field.Plain form)) (field_given e form x.gives) x.there x.part in
      field_placed (described s) scope form (form_lies (described s) scope m x.there.place form u kept.sized)

  lie : (e : Element) (form : PlainForm) → IsMember s field_in e form → Lies (extent_of (framing s) form)
  lie e form x = form_lies (described s) scope m x.there.place form (at_element e (element.Field (field.Plain form)) (field_given e form x.gives) x.there x.part) kept.sized

  -- the bundle field
  bundle_said : (form : IsaForm) → isa_form s ≡ Some form → of_bundle (described s) form.bundle_field ≡ []
  bundle_said form is =
      let x : IsSelected s form = isa_selected s form kept.at is in
      let e : Element = element.Frame (frame.Isa form) in
      let u : Silent (described s) scope m x.place e = silent (described s) scope m tops alone elements none e (record { place = x.place; is = x.is }) x.part in
      let said : of_isa (described s) (x.place + 1) e ≡ [] = (append_none (of_isa (described s) (x.place + 1) e) (of_insns (described s) m (of_form (x.place + 1) (written_in s))) u.bundle).0 in
      sym (ap (λ b. if b then of_bundle (described s) form.bundle_field else []) x.selected) ∙ said

  bundle_named : (form : IsaForm) (name : List ℕ) → isa_form s ≡ Some form → form.bundle_field ≡ Some name → FieldOf s scope m name
  bundle_named form name is named = field_of_name s scope m kept.at own kept.fields lie name (field_fits s scope m tops alone elements kept.at none form is name named)

  pub bundle_fits : no_bundle_bit m ≡ []
  bundle_fits = bundle_silent s scope m own bundle_said bundle_named

  pub all_fields : AllHold (λ f. misplaced f ≡ []) (ruled_fields (described s) scope)
  all_fields = all_mapped (ruled_field (described s) scope) (λ f. misplaced f ≡ []) (members s field_in) (all_members s field_in (λ form. misplaced (ruled_field (described s) scope form) ≡ []) one_field)

  one_insn : (w : Written) → IsIn (written_in s) w → (form : InstructionForm) → InsnFits m (insn_by (described s) scope w form)
  one_insn w i form =
      let o : FromForm s w = held (FromForm s) (written_in s) w (from_forms s) i in
      let e : Element = element.Insn (insn.Instruction o.form) in
      let u : Silent (described s) scope m o.place e = silent (described s) scope m tops alone elements none e (record { place = o.place; is = o.is }) o.part in
      let slots : List (List ℕ) = slot_names (described s) w in
      let few : length slots ≤ 256 = kept.slots i.place w i.is in
      let silent_format : in_format w ≡ [] = format_silent (described s) scope m o.form o.place u w i o.number in
      record {
        constants = all_constants s scope m kept.at own kept.fields lie w.parts (behind_format (described s) w) 0 (constants_of_fields s w o) (constants_silent (described s) scope m o.place e u kept.sized w i o.number);
        apart = parts_apart (described s) scope m o.place e u kept.sized w i o.number;
        free = parts_free (described s) scope m o.place e u kept.sized w i o.number;
        delimited = slots_delimited (described s) scope m o.place e u kept.sized w i o.number;
        once = not_twice slots few (is_lacking slots) w.name (slot_operands (parts_of (described s) w)) w.pieces (syntax_silent (described s) scope m o.form o.place u w i o.number);
        matched = ap (unmatched (pieces_of slots w.pieces)) (own_operands (described s) w)
            ∙ all_matched (described s).operand_numbers (all_operand_names s (written_in s)) slots w.pieces few (slots_known s kept.at w i kept.operands) (slots_distinct (described s) w silent_format) (slots_written (described s) w silent_format);
      }

  abbrev MacroOf : MacroForm → Type 0
  MacroOf form =
      (target : ℕ) → target_of (described s).written form ≡ Some target → MacroFits m (macro_by (described s) form (macro_slots (described s).operand_numbers form) target)

  one_macro : (e : Element) (form : MacroForm) → IsMember s macro_in e form → MacroOf form
  one_macro e form x target aimed =
      let u : Silent (described s) scope m x.there.place (element.Insn (insn.Macro form)) = at_element e (element.Insn (insn.Macro form)) (macro_given e form x.gives) x.there x.part in
      let few : length (macro_slots (described s).operand_numbers form) ≤ 256 = kept.macros e form x target aimed in
      let names : List (List ℕ) = all_operand_names s (written_in s) in
      let w : At (written_in s) target = aimed_at (written_in s) form target aimed in
      record {
        delimited = macro_delimited (described s) scope m x.there.place form u kept.sized;
        once = macro_once (described s) scope m form x.there.place u target aimed w.what w.is (map (number_or_none (described s).operand_numbers) (macro_slots (numbered names) form)) few;
        given = ap (ungiven (givens (described s) (macro_slots (numbered names) form) form (slice_get (written_in s) target))) (emitted_slots s scope m own form target w.what kept.insns w.is)
            ∙ macro_gives (described s) scope m form x.there.place u target aimed w.what w.is;
        used = macro_used (described s) scope m form x.there.place u target aimed w.what w.is (macro_distinct names form) (macro_written names form);
        matched = all_matched (numbered names) names (macro_slots (numbered names) form) (all_pieces form.syntax) few (macro_known names form kept.operands) (macro_distinct names form) (macro_written names form);
      }

  by_target : (form : MacroForm) → ((target : ℕ) → target_of (described s).written form ≡ Some target → MacroFits m (macro_by (described s) form (macro_slots (described s).operand_numbers form) target)) → (o : Option ℕ) → target_of (described s).written form ≡ o → (x : MacroInsn) → option_map (macro_by (described s) form (macro_slots (described s).operand_numbers form)) o ≡ Some x → MacroFits m x
  by_target form h None aimed x is = absurd cc
  by_target form h (Some k) aimed x is = subst (MacroFits m) (the_found (macro_by (described s) form (macro_slots (described s).operand_numbers form) k) x is) (h k aimed)

  pub all_macros : AllHold (MacroFits m) (macros_of (described s))
  all_macros =
      let forms : AllHold MacroOf (members s macro_in) = all_members s macro_in MacroOf one_macro in
      all_given (MacroFits m) (macro_of (described s)) (members s macro_in) (λ form x i is. by_target form (held MacroOf (members s macro_in) form forms i) (target_of (described s).written form) refl x is)

  -- of the machine of the description
  pub whole_law : AreFitting m
  whole_law = record {
    bundle = bundle_fits;
    fields = λ k f is. held (λ x. misplaced x ≡ []) (ruled_fields (described s) scope) f all_fields (record { place = k; is = sym (ap (λ x. slice_get x.fields k) own) ∙ is });
    insns = λ k i is. held (InsnFits m) (insns_of (described s) scope) i (all_insns (described s) scope (InsnFits m) one_insn) (record { place = k; is = sym (ap (λ x. slice_get x.insns k) own) ∙ is });
    macros = λ k x is. held (MacroFits m) (macros_of (described s)) x all_macros (record { place = k; is = sym (ap (λ y. slice_get y.macros k) own) ∙ is });
  }

-- of a description that is known to be that of a selection
pub whole_of : (d : Described) (s : Selection) (scope : Scope) (m : Machine) (tops : List Top) → d ≡ described s → first_refusal tops ≡ None → s.elements ≡ filter_map element_at tops → by_elements d scope m tops ≡ None → IsChosen s → m ≡ machine_of d scope → AreFitting m
whole_of d s scope m tops same alone elements none chosen own =
    let unsaid : by_elements (described s) scope m tops ≡ None = subst (λ x. by_elements x scope m tops ≡ None) same none in
    whole_law s scope m tops alone elements unsaid (kept_law s scope m tops alone elements unsaid chosen) (own ∙ ap (λ x. machine_of x scope) same)
