-- The pieces, slots, bytes and cycles of an instruction of which nothing is said aren't too many; nor are those of a macro instruction's syntax.
use Rattle.std.proofs.Common.{◌≡◌, ◌∙◌, ℕ, zero, suc, ◌+◌, ◌≤◌, min, Bool, true, false, ◌&&◌, if◌then◌else◌, List, [], ◌∷◌, ◌++◌, map, filter, length, is_some, Option, Some, None, slice_get, refl, sym, ap, subst, arith}
use Rattle.std.specs.Prelude.{codes}
use Rattle.std.specs.List.{filter_map, cons_option, flat_map}
use Rattle.std.specs.Option.{option_map}
use Rattle.cg_base.specs.declared.form.Form.{Form}
use Rattle.cg_base.specs.declared.form.Form.TheVariants.{Items}
use Rattle.cg_base.specs.declared.form.Top.{Top}
use Rattle.cg_base.specs.Refusing.{least}
use Rattle.cg_desc_laws_forms.proofs.Members.{IsMember}
use Rattle.cg_attrs.specs.declared.frame.ModelForm.{ModelForm}
use Rattle.cg_attrs.specs.Clauses.{clauses, clause_faults, content_at}
use Rattle.cg_attrs.specs.Judging.{own_faults, form_faults}
use Rattle.cg_desc_laws_forms.proofs.Clauses.{Stands, StandsWith, looked_up}
use Rattle.cg_desc_laws_forms.proofs.Insns.{insn_by as insn_by_form}
use Rattle.cg_desc_laws_forms.proofs.Lists.{append_none, the_found}
use Rattle.cg_desc_fault_count.specs.E308.{in_clause, of_pieces, of_slots, of_bytes, of_cycles, of_time, of_macro_syntax}
use Rattle.cg_desc_choices.specs.declared.written.NamedPart.{NamedPart}
use Rattle.cg_desc_choices.specs.declared.written.NamedPart.TheVariants as named
use Rattle.cg_desc_choices.specs.declared.written.Written.{Written}
use Rattle.cg_desc_choices.specs.declared.written.WrittenPart.{WrittenPart}
use Rattle.cg_desc_data.specs.Selecting.{Selection, members}
use Rattle.cg_desc_scope.specs.Described.{Described, described, written_in}
use Rattle.cg_desc_scope.specs.Texts.{is_of_form, of_form}
use Rattle.cg_desc_elements.specs.declared.element.Element.{Element}
use Rattle.cg_desc_elements.specs.declared.element.Element.TheVariants as element
use Rattle.cg_desc_elements.specs.declared.kind.Kind.TheVariants as kinds
use Rattle.cg_desc_elements.specs.Reading.{reader_for, element_faults, element_at, first_refusal}
use Rattle.cg_desc_insns.specs.Choices.{name_of_slot, slot_name}
use Rattle.cg_desc_insns.specs.Written.{all_pieces}
use Rattle.cg_desc_fault_least.specs.Least.{by_elements}
use Rattle.cg_insn.specs.Contents.{wrong, left_out}
use Rattle.cg_insn.specs.Instructions as forms
use Rattle.cg_insn.specs.Tables.{heads, kind_named, rows_of, table_of}
use Rattle.cg_insn.specs.declared.form.InsnForm.TheVariants as insn
use Rattle.cg_insn.specs.declared.form.InstructionForm.{InstructionForm}
use Rattle.cg_insn.specs.declared.form.MacroForm.{MacroForm}
use Rattle.cg_model.specs.Matching.{length_of}
use Rattle.cg_model.specs.declared.insn.Insn.{Insn}
use Rattle.cg_model.specs.declared.insn.MacroInsn.{MacroInsn}
use Rattle.cg_model.specs.declared.machine.Machine.{Machine}
use Rattle.cg_model_faults.specs.E308.{too_many, of_shape, of_syntax}
use Rattle.cg_model_faults.specs.E313.{slot_operands, part_operands}
use Rattle.cg_rtl_resolve.specs.declared.scope.Scope.{Scope}
use Rattle.cg_desc_references.specs.Clauses.{clauses_in}
use Rattle.cg_desc_machine.specs.Instructions.{part_of, part_in, slot_part, slot_names, behind_format, parts_of, pieces_of, kept_cycles, number_or_none, insn_by, insn_of, insns_of}
use Rattle.cg_desc_machine.specs.Macros.{macro_in, macro_slots, target_of, macro_by, macro_of, macros_of}
use Rattle.cg_desc_scope.specs.Timing.{cycles_for, cycles_of}
use Rattle.cg_desc_laws.proofs.Insns.{Wants, wants_of, IsWanted, wanted_there}
use Rattle.cg_desc_laws.proofs.Members.{AllHold, IsIn, filtered_none}
use Rattle.cg_desc_laws.proofs.Opened.{Opened, opened, of_kind}
use Rattle.cg_desc_laws.proofs.Unsaid.{none_of_clause}
use Rattle.cg_desc_laws.specs.InHand.{of_shapes, of_syntaxes}
use Rattle.cg_desc_laws.proofs.CountedElements.{own_at, macro_given, OfForm, of_its_form}
use Rattle.cg_desc_laws.proofs.CountedFew.{mapped_long}
use Rattle.cg_desc_laws.proofs.CountedGiven.{all_given, all_gives, each_member}
use Rattle.cg_desc_laws.proofs.CountedLimits.{not_passed, within}
use Rattle.cg_desc_laws.proofs.CountedOwn.{Own}
use Rattle.cg_desc_laws.proofs.CountedWithin.{none_joined}

-- The operands of an instruction's slots are as many as the names of the slots.
names_long : (d : Described) (names : List (List ℕ)) → length (slot_operands (map (slot_part d) names)) ≡ length names
names_long d [] = refl
names_long d (n ∷ ns) = ap suc (names_long d ns)

pub parts_long : (d : Described) (names : List (List ℕ)) (ps : List WrittenPart) → length (slot_operands (map (part_in d) ps ++ map (slot_part d) names)) ≡ length (filter_map slot_name ps ++ names)
parts_long d names [] = names_long d names
parts_long d names (p ∷ ps) = by p.part (parts_long d names ps) where
  by : (q : NamedPart) → length (slot_operands (map (part_in d) ps ++ map (slot_part d) names)) ≡ length (filter_map slot_name ps ++ names)
      → length (part_operands (part_of d q) ++ slot_operands (map (part_in d) ps ++ map (slot_part d) names)) ≡ length (cons_option (name_of_slot q) (filter_map slot_name ps) ++ names)
  by (named.Constant field value) h = h
  by (named.Slot name) h = ap suc h

-- Cycles, which a machine keeps up to a limit.
kept_few : (n : ℕ) → too_many 67107840 n ≡ [] → too_many 67107840 (kept_cycles n) ≡ []
kept_few n none =
    let few : n ≤ 67107840 = within 67107840 0 n (omega arith) none in
    not_passed 67107840 0 (min n 4294967295) (omega (arith, few))

untimed : (model : Option ModelForm) → too_many 67107840 (cycles_for model None) ≡ []
untimed None = refl
untimed (Some m) = refl

timed : (d : Described) (form : InstructionForm) (test : Written → Bool) (ws : List Written) (w : Written) → of_cycles d form (filter test ws) ≡ [] → IsIn ws w → test w ≡ true → of_time d.model form ≡ []
timed d form test ws w none i passes = at ws none i.place i.is where
  at : (vs : List Written) → of_cycles d form (filter test vs) ≡ [] → (k : ℕ) → slice_get vs k ≡ Some w → of_time d.model form ≡ []
  at [] none k is = absurd cc
  at (v ∷ vs) none k is = by (test v) refl k is (at vs) none where
    by : (b : Bool) → test v ≡ b → (n : ℕ) → slice_get (v ∷ vs) n ≡ Some w → (of_cycles d form (filter test vs) ≡ [] → (j : ℕ) → slice_get vs j ≡ Some w → of_time d.model form ≡ [])
        → of_cycles d form (if test v then v ∷ filter test vs else filter test vs) ≡ [] → of_time d.model form ≡ []
    by true is n there rest none = sym (ap (λ b. of_cycles d form (if b then v ∷ filter test vs else filter test vs)) is) ∙ none
    by false is zero there rest none = absurd (never (sym is ∙ ap test (the_found v w there) ∙ passes)) where
      never : false ≡ true → ⊥
      never e = absurd cc
    by false is (suc n) there rest none = rest (sym (ap (λ b. of_cycles d form (if b then v ∷ filter test vs else filter test vs)) is) ∙ none) n there

module _ (d : Described) (scope : Scope) (m : Machine) (form : InstructionForm) (place : ℕ) (o : Own d scope m place (element.Insn (insn.Instruction form))) where
  abbrev e : Element
  e = element.Insn (insn.Instruction form)

  abbrev ws : List Written
  ws = of_form (place + 1) d.written

  has : Wants o.top.form form
  has =
      let by : (forms.insn_of o.top.form ≡ Some (insn.Instruction form)) × (least (element_faults o.top.form) ≡ least (forms.insn_faults o.top.form)) = insn_by_form o.top.form (reader_for o.top.form) (insn.Instruction form) o.is in
      wants_of o.top.form form (opened kind_named forms.insn_in o.top.form (insn.Instruction form) by.0) (sym by.1 ∙ o.clear)

  none_here : flat_map (in_clause d scope m (place + 1) e ws) (clauses has.elements) ≡ []
  none_here = sym (ap (λ h. flat_map (in_clause d scope m (place + 1) e ws) (clauses_in kinds.Insn h)) has.is) ∙ o.clauses

  few_pieces : flat_map (of_pieces d) ws ≡ []
  few_pieces = none_of_clause (in_clause d scope m (place + 1) e ws) has.elements (codes "syntax") has.syntax none_here

  few_slots : flat_map (of_slots d scope m form) ws ≡ []
  few_slots = none_of_clause (in_clause d scope m (place + 1) e ws) has.elements (codes "format") has.format none_here

  few_cycles : (w : Written) → IsIn d.written w → is_of_form (place + 1) w ≡ true → too_many 67107840 (cycles_of d.model form) ≡ []
  few_cycles w i test = by (content_at (codes "timing") has.elements) refl where
    by : (c : Option (List Form)) → content_at (codes "timing") has.elements ≡ c → too_many 67107840 (cycles_of d.model form) ≡ []
    by None absent =
        let timing : form.timing ≡ None = ap (λ (f : InstructionForm). f.timing) (sym has.gives) ∙ ap (option_map Items) absent in
        ap (λ t. too_many 67107840 (cycles_for d.model t)) timing ∙ untimed d.model
    by (Some c) is =
        let x : StandsWith has.elements (codes "timing") c = looked_up has.elements (codes "timing") c is in
        timed d form (is_of_form (place + 1)) d.written w (none_of_clause (in_clause d scope m (place + 1) e ws) has.elements (codes "timing") x.stands none_here) i test

  -- one of its instructions
  pub shape_few : (w : Written) → IsIn d.written w → is_of_form (place + 1) w ≡ true → d.framing.is_sized ≡ true → of_shape m (insn_by d scope w form) ≡ []
  shape_few w i test sized =
      let pieces : of_pieces d w ≡ [] = filtered_none (of_pieces d) (is_of_form (place + 1)) d.written w few_pieces i test in
      let slots : of_slots d scope m form w ≡ [] = filtered_none (of_slots d scope m form) (is_of_form (place + 1)) d.written w few_slots i test in
      let both : (too_many 16 (length (slot_names d w)) ≡ []) × (of_bytes d scope m form w ≡ []) = append_none (too_many 16 (length (slot_names d w))) (of_bytes d scope m form w) slots in
      let bytes : too_many 16 (length_of m (insn_by d scope w form)) ≡ [] = sym (ap (λ b. if b then too_many 16 (length_of m (insn_by d scope w form)) else []) sized) ∙ both.1 in
      let named : too_many 16 (length (slot_operands (parts_of d w))) ≡ [] = ap (too_many 16) (parts_long d (behind_format d w) w.parts) ∙ both.0 in
      none_joined _ _ (none_joined _ _ (none_joined _ _ pieces named) bytes) (kept_few (cycles_of d.model form) (few_cycles w i test))

  pub slots_within : (w : Written) → IsIn d.written w → is_of_form (place + 1) w ≡ true → length (slot_names d w) ≤ 16
  slots_within w i test =
      let slots : of_slots d scope m form w ≡ [] = filtered_none (of_slots d scope m form) (is_of_form (place + 1)) d.written w few_slots i test in
      within 16 0 (length (slot_names d w)) (omega arith) (append_none (too_many 16 (length (slot_names d w))) (of_bytes d scope m form w) slots).0

-- The syntax of a macro instruction's form.
module _ (d : Described) (scope : Scope) (m : Machine) (form : MacroForm) (place : ℕ) (o : Own d scope m place (element.Insn (insn.Macro form))) where
  never : (y : InstructionForm) (x : MacroForm) → insn.Instruction y ≡ insn.Macro x → ⊥
  never y x is = absurd cc

  pub syntax_few : is_some (target_of d.written form) ≡ true → of_macro_syntax d form ≡ []
  syntax_few target =
      let by : (forms.insn_of o.top.form ≡ Some (insn.Macro form)) × (least (element_faults o.top.form) ≡ least (forms.insn_faults o.top.form)) = insn_by_form o.top.form (reader_for o.top.form) (insn.Macro form) o.is in
      let x : Opened kind_named forms.insn_in o.top.form (insn.Macro form) = opened kind_named forms.insn_in o.top.form (insn.Macro form) by.0 in
      let faultless : least (clause_faults wrong left_out (rows_of x.kind) x.elements) ≡ None = sym (ap (λ r. least (form_faults (own_faults wrong left_out table_of) r)) x.known) ∙ sym by.1 ∙ o.clear in
      let wanted : IsWanted (rows_of x.kind) (codes "syntax") = of_kind (λ k. forms.insn_in k x.elements ≡ insn.Macro form → IsWanted (rows_of k) (codes "syntax")) heads x.head x.kind x.chosen (
        (λ gives. absurd (never (forms.instruction_in x.elements) form gives)),
        ((λ gives. record { apart = refl; wanted = refl }), tt),
      ) x.gives in
      let syntax : Stands x.elements (codes "syntax") = wanted_there wrong left_out (rows_of x.kind) x.elements faultless (codes "syntax") wanted in
      let none : flat_map (in_clause d scope m (place + 1) (element.Insn (insn.Macro form)) (of_form (place + 1) d.written)) (clauses x.elements) ≡ [] =
      sym (ap (λ h. flat_map (in_clause d scope m (place + 1) (element.Insn (insn.Macro form)) (of_form (place + 1) d.written)) (clauses_in kinds.Macro h)) x.is) ∙ o.clauses in
      let said : (if is_some (target_of d.written form) && true then of_macro_syntax d form else []) ≡ [] =
      none_of_clause (in_clause d scope m (place + 1) (element.Insn (insn.Macro form)) (of_form (place + 1) d.written)) x.elements (codes "syntax") syntax none in
      sym (ap (λ b. if b && true then of_macro_syntax d form else []) target) ∙ said

-- what holds of each, of all
all_shapes : (m : Machine) (is : List Insn) → AllHold (λ i. of_shape m i ≡ []) is → of_shapes m is ≡ []
all_shapes m [] all = refl
all_shapes m (i ∷ is) all = none_joined (of_shape m i) (of_shapes m is) all.0 (all_shapes m is all.1)

all_syntaxes : (xs : List MacroInsn) → AllHold (λ x. of_syntax (length x.pieces) (length x.operands) ≡ []) xs → of_syntaxes xs ≡ []
all_syntaxes [] all = refl
all_syntaxes (x ∷ xs) all = none_joined (of_syntax (length x.pieces) (length x.operands)) (of_syntaxes xs) all.0 (all_syntaxes xs all.1)

module _ (s : Selection) (scope : Scope) (m : Machine) (tops : List Top) (alone : first_refusal tops ≡ None) (elements : s.elements ≡ filter_map element_at tops) (none : by_elements (described s) scope m tops ≡ None) where
  one_shape : (described s).framing.is_sized ≡ true → (w : Written) → IsIn (written_in s) w → (i : Insn) → insn_of (described s) scope w ≡ Some i → of_shape m i ≡ []
  one_shape sized w there i is =
      let o : OfForm s scope m tops alone elements none w = of_its_form s scope m tops alone elements none w there in
      let same : insn_by (described s) scope w o.form ≡ i = the_found (insn_by (described s) scope w o.form) i (sym (ap (option_map (insn_by (described s) scope w)) o.gives) ∙ is) in
      subst (λ x. of_shape m x ≡ []) same (shape_few (described s) scope m o.form o.place o.own w there o.test sized)

  pub shapes_few : (described s).framing.is_sized ≡ true → of_shapes m (insns_of (described s) scope) ≡ []
  shapes_few sized = all_shapes m (insns_of (described s) scope) (all_given (λ i. of_shape m i ≡ []) (insn_of (described s) scope) (written_in s) (one_shape sized))

  pub slots_few : (w : Written) → IsIn (written_in s) w → length (slot_names (described s) w) ≤ 16
  slots_few w there =
      let o : OfForm s scope m tops alone elements none w = of_its_form s scope m tops alone elements none w there in
      slots_within (described s) scope m o.form o.place o.own w there o.test

  pub one_syntax : (e : Element) (form : MacroForm) → IsMember s macro_in e form → (x : MacroInsn) → macro_of (described s) form ≡ Some x → of_syntax (length x.pieces) (length x.operands) ≡ []
  one_syntax e form member x is =
      let o : Own (described s) scope m member.there.place (element.Insn (insn.Macro form)) = own_at s scope m tops alone elements none e (element.Insn (insn.Macro form)) (macro_given e form member.gives) member.there member.part in
      by (target_of (written_in s) form) refl (syntax_few (described s) scope m form member.there.place o) is where
        slots : List (List ℕ)
        slots = macro_slots (described s).operand_numbers form

        by : (target : Option ℕ) → target_of (written_in s) form ≡ target → (is_some (target_of (written_in s) form) ≡ true → of_macro_syntax (described s) form ≡ [])
            → option_map (macro_by (described s) form slots) target ≡ Some x → of_syntax (length x.pieces) (length x.operands) ≡ []
        by None there few is = absurd cc
        by (Some k) there few is =
            let long : length (map (number_or_none (described s).operand_numbers) slots) ≡ length slots = mapped_long (number_or_none (described s).operand_numbers) slots in
            subst (λ (y : MacroInsn). of_syntax (length y.pieces) (length y.operands) ≡ []) (the_found (macro_by (described s) form slots k) x is)
            (ap (of_syntax (length (pieces_of slots (all_pieces form.syntax)))) long ∙ few (ap is_some there))

  pub syntaxes_few : of_syntaxes (macros_of (described s)) ≡ []
  syntaxes_few =
      all_syntaxes (macros_of (described s)) (all_gives (λ (x : MacroInsn). of_syntax (length x.pieces) (length x.operands) ≡ []) (macro_of (described s)) (members s macro_in)
      (each_member s macro_in (λ form. (x : MacroInsn) → macro_of (described s) form ≡ Some x → of_syntax (length x.pieces) (length x.operands) ≡ []) one_syntax))
