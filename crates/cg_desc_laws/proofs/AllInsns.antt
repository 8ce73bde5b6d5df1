-- The literals of all instructions.
use Rattle.std.proofs.Common.{◌≡◌, ◌∙◌, ℕ, suc, ◌+◌, true, ◌&&◌, List, [], ◌∷◌, Option, Some, None, slice_get, refl, ap, arith}
use Rattle.std.specs.List.{list_all, filter_map, cons_option}
use Rattle.std.specs.Option.{option_map}
use Rattle.cg_base.specs.declared.form.Top.{Top}
use Rattle.cg_desc_laws_forms.proofs.Framing.{IsElement}
use Rattle.cg_desc_elements.specs.declared.element.Element.TheVariants as element
use Rattle.cg_desc_elements.specs.Reading.{element_at, first_refusal}
use Rattle.cg_desc_fault_least.specs.Least.{by_elements}
use Rattle.cg_insn.specs.declared.form.InsnForm.TheVariants as insn
use Rattle.cg_insn.specs.declared.form.InstructionForm.{InstructionForm}
use Rattle.cg_model.specs.declared.insn.Insn.{Insn}
use Rattle.cg_model.specs.declared.machine.Machine.{Machine}
use Rattle.cg_rtl_resolve.specs.declared.scope.Scope.{Scope}
use Rattle.cg_desc_choices.specs.declared.written.Written.{Written}
use Rattle.cg_desc_data.specs.Selecting.{Selection}
use Rattle.cg_desc_scope.specs.Described.{described, written_in}
use Rattle.cg_desc_machine.specs.Instructions.{slot_names, insn_by, form_of, insn_of, insns_of}
use Rattle.cg_desc_laws.specs.Formed.{has_literals}
use Rattle.cg_desc_laws.proofs.InsnPieces.{none_of_literals, pieces_formed}
use Rattle.cg_desc_laws.proofs.Members.{IsIn, held}
use Rattle.cg_desc_laws.proofs.Origins.{FromForm, from_forms}
use Rattle.cg_desc_laws.proofs.Unsaid.{Unsaid, unsaid}

module _ (s : Selection) (scope : Scope) (m : Machine) (tops : List Top) (alone : first_refusal tops ≡ None) (elements : s.elements ≡ filter_map element_at tops) (none : by_elements (described s) scope m tops ≡ None) where
  pub one_insn : (w : Written) → IsIn (written_in s) w → (form : InstructionForm) → has_literals (insn_by (described s) scope w form) ≡ true
  one_insn w i form =
      let o : FromForm s w = held (FromForm s) (written_in s) w (from_forms s) i in
      let x : IsElement s.elements (element.Insn (insn.Instruction o.form)) = record { place = o.place; is = o.is } in
      let u : Unsaid (described s) scope m o.place (element.Insn (insn.Instruction o.form)) = unsaid (described s) scope m tops alone elements none (element.Insn (insn.Instruction o.form)) x o.part in
      let number : w.form ≡ o.place + 1 = o.number ∙ behind o.place in
      pieces_formed (slot_names (described s) w) w (none_of_literals (described s) scope m o.form o.place u w i number) where
        behind : (k : ℕ) → suc k ≡ k + 1
        behind k = omega arith

  kept : (w : Written) (o : Option InstructionForm) (rest : List Insn) → ((form : InstructionForm) → has_literals (insn_by (described s) scope w form) ≡ true) → list_all has_literals rest ≡ true → list_all has_literals (cons_option (option_map (insn_by (described s) scope w) o) rest) ≡ true
  kept w None rest h g = g
  kept w (Some form) rest h g = ap (λ b. b && list_all has_literals rest) (h form) ∙ g

  among : (ws : List Written) → ((k : ℕ) (w : Written) → slice_get ws k ≡ Some w → IsIn (written_in s) w) → list_all has_literals (filter_map (insn_of (described s) scope) ws) ≡ true
  among [] there = refl
  among (w ∷ ws) there = kept w (form_of s w) (filter_map (insn_of (described s) scope) ws) (one_insn w (there 0 w refl)) (among ws (λ k v is. there (suc k) v is))

  pub insns_literal : list_all has_literals (insns_of (described s) scope) ≡ true
  insns_literal = among (written_in s) (λ k w is. record { place = k; is = is })
