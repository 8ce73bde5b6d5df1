-- All instructions are formed.
use Rattle.std.proofs.Common.{◌≡◌, ◌∙◌, ℕ, suc, ◌+◌, true, ◌&&◌, List, [], ◌∷◌, Option, Some, None, slice_get, refl, ap, arith}
use Rattle.std.specs.List.{list_all, filter_map, cons_option}
use Rattle.std.specs.Option.{option_map}
use Rattle.cg_base.specs.declared.form.Top.{Top}
use Rattle.cg_desc_laws_forms.proofs.Framing.{IsElement}
use Rattle.cg_desc_laws_forms.proofs.Members.{both_true}
use Rattle.cg_desc_elements.specs.declared.element.Element.TheVariants as element
use Rattle.cg_desc_elements.specs.Reading.{element_at, first_refusal}
use Rattle.cg_desc_fault_least.specs.Least.{by_elements}
use Rattle.cg_insn.specs.declared.form.InsnForm.TheVariants as insn
use Rattle.cg_insn.specs.declared.form.InstructionForm.{InstructionForm}
use Rattle.cg_model.specs.Formed.{is_insn, is_piece, is_formed, is_formed_where}
use Rattle.cg_model.specs.declared.insn.Insn.{Insn}
use Rattle.cg_model.specs.declared.machine.Machine.{Machine}
use Rattle.cg_rtl_resolve.specs.declared.scope.Scope.{Scope}
use Rattle.cg_desc_choices.specs.declared.written.Written.{Written}
use Rattle.cg_desc_choices.specs.Choices.{own_assertion, with_choices}
use Rattle.cg_desc_data.specs.Selecting.{Selection}
use Rattle.cg_desc_scope.specs.Described.{described, written_in}
use Rattle.cg_desc_insns.specs.Written.{expression_in, written_of}
use Rattle.cg_desc_machine.specs.Instructions.{insn_by, form_of, insn_of, insns_of}
use Rattle.cg_rtl_laws.specs.Shaped.{gives_value}
use Rattle.cg_desc_laws.proofs.AllInsns.{one_insn}
use Rattle.cg_desc_laws.proofs.Members.{IsIn, held}
use Rattle.cg_desc_laws.proofs.Origins.{FromForm, from_forms}
use Rattle.cg_desc_laws.proofs.Unsaid.{Unsaid, unsaid}
use Rattle.cg_desc_laws.proofs.WholeChosen.{choices_clear}
use Rattle.cg_desc_laws.proofs.WholeOwn.{semantics_formed, assertion_formed}

-- what an instruction asserts itself, by its form and its choices
pub asserted_so : (s : Selection) (w : Written) (o : FromForm s w) → w.assertion ≡ option_map (own_assertion o.chosen) (option_map expression_in o.form.ifield_assertion)
unfolding with_choices written_of
asserted_so s w o = ap (λ x. x.assertion) o.written

module _ (s : Selection) (scope : Scope) (value : gives_value scope ≡ true) (m : Machine) (tops : List Top) (alone : first_refusal tops ≡ None) (elements : s.elements ≡ filter_map element_at tops) (none : by_elements (described s) scope m tops ≡ None) where
  one_formed : (w : Written) → IsIn (written_in s) w → (form : InstructionForm) → is_insn (insn_by (described s) scope w form) ≡ true
  one_formed w i form =
      let o : FromForm s w = held (FromForm s) (written_in s) w (from_forms s) i in
      let x : IsElement s.elements (element.Insn (insn.Instruction o.form)) = record { place = o.place; is = o.is } in
      let u : Unsaid (described s) scope m o.place (element.Insn (insn.Instruction o.form)) = unsaid (described s) scope m tops alone elements none (element.Insn (insn.Instruction o.form)) x o.part in
      let number : w.form ≡ o.place + 1 = o.number ∙ behind o.place in
      let own : Insn = insn_by (described s) scope w form in
      both_true (list_all is_piece own.pieces && is_formed_where own.assertion) (is_formed own.semantics)
      (both_true (list_all is_piece own.pieces) (is_formed_where own.assertion) (one_insn s scope m tops alone elements none w i form)
      (assertion_formed (described s) scope m o.form o.place u value w i number o.chosen (asserted_so s w o) (choices_clear s tops alone elements w o)))
      (semantics_formed (described s) scope m o.form o.place u value w i number) where
        behind : (k : ℕ) → suc k ≡ k + 1
        behind k = omega arith

  kept : (w : Written) (o : Option InstructionForm) (rest : List Insn) → ((form : InstructionForm) → is_insn (insn_by (described s) scope w form) ≡ true) → list_all is_insn rest ≡ true → list_all is_insn (cons_option (option_map (insn_by (described s) scope w) o) rest) ≡ true
  kept w None rest h g = g
  kept w (Some form) rest h g = both_true (is_insn (insn_by (described s) scope w form)) (list_all is_insn rest) (h form) g

  among : (ws : List Written) → ((k : ℕ) (w : Written) → slice_get ws k ≡ Some w → IsIn (written_in s) w) → list_all is_insn (filter_map (insn_of (described s) scope) ws) ≡ true
  among [] there = refl
  among (w ∷ ws) there = kept w (form_of s w) (filter_map (insn_of (described s) scope) ws) (one_formed w (there 0 w refl)) (among ws (λ k v is. there (suc k) v is))

  pub insns_formed : list_all is_insn (insns_of (described s) scope) ≡ true
  insns_formed = among (written_in s) (λ k w is. record { place = k; is = is })
