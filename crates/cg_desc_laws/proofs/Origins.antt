-- Each instruction of a description comes from a form of it that takes part.
use Rattle.std.proofs.Common.{◌≡◌, ◌∙◌, ℕ, suc, ◌+◌, Bool, true, false, if◌then◌else◌, List, [], ◌∷◌, take, Some, slice_get, refl, sym, ap, subst, arith}
use Rattle.cg_desc_elements.specs.declared.element.Element.{Element}
use Rattle.cg_desc_elements.specs.declared.element.Element.TheVariants as element
use Rattle.cg_desc_elements.specs.Belonging.{takes_part}
use Rattle.cg_insn.specs.declared.form.InsnForm.TheVariants as insn
use Rattle.cg_insn.specs.declared.form.InstructionForm.{InstructionForm}
use Rattle.cg_desc_choices.specs.declared.written.Written.{Written}
use Rattle.cg_desc_choices.specs.Choices.{Chosen, with_choices}
use Rattle.cg_desc_choices.specs.Ways.{ways, most, each_choice}
use Rattle.cg_desc_insns.specs.Choices.{anyofs_of}
use Rattle.cg_desc_insns.specs.Expanded.{choices_put, instructions_in, instructions_at, expanded_from, expanded}
use Rattle.cg_desc_insns.specs.Written.{written_of}
use Rattle.cg_desc_data.specs.Selecting.{Selection, takes_part_in}
use Rattle.cg_desc_scope.specs.Described.{written_in}
use Rattle.cg_desc_laws.proofs.Members.{AllHold, IsIn, all_append, all_map_in}

-- the ways to choose of an instruction of this form
abbrev pub ways_of : Selection → ℕ → InstructionForm → List (List Chosen)
ways_of s place form = take most (ways (anyofs_of s.at s.elements (written_of s.at s.elements (suc place) form).parts))

-- Its form, which takes part, and the choices that were made, which are one of the ways to choose.
pub record FromForm (s : Selection) (w : Written) : Type 0 where
  pub place : ℕ
  pub form : InstructionForm
  pub is : slice_get s.elements place ≡ Some (element.Insn (insn.Instruction form))
  pub part : takes_part_in s (element.Insn (insn.Instruction form)) ≡ true
  pub chosen : List Chosen
  pub way : IsIn (ways_of s place form) chosen
  pub written : w ≡ with_choices chosen (written_of s.at s.elements (suc place) form)
  pub number : w.form ≡ suc place

module _ (s : Selection) where
  with_form : (place : ℕ) (form : InstructionForm) (cs : List Chosen) → (with_choices cs (written_of s.at s.elements (suc place) form)).form ≡ suc place
  unfolding with_choices written_of
  with_form place form cs = refl

  by_choices : (place : ℕ) (form : InstructionForm) → slice_get s.elements place ≡ Some (element.Insn (insn.Instruction form)) → takes_part_in s (element.Insn (insn.Instruction form)) ≡ true
      → AllHold (FromForm s) (choices_put s.at s.elements (written_of s.at s.elements (suc place) form))
  unfolding each_choice
  by_choices place form is part = all_map_in (FromForm s) (λ cs. with_choices cs (written_of s.at s.elements (suc place) form)) (ways_of s place form)
      (λ cs way. record { place = place; form = form; is = is; part = part; chosen = cs; way = way; written = refl; number = with_form place form cs })

  by_element : (place : ℕ) (e : Element) → slice_get s.elements place ≡ Some e → takes_part_in s e ≡ true → AllHold (FromForm s) (instructions_in s.at s.elements (suc place) e)
  by_element place (element.Insn (insn.Instruction form)) is part = by_choices place form is part
  by_element place (element.Insn (insn.Macro form)) is part = tt
  by_element place (element.Frame f) is part = tt
  by_element place (element.Field f) is part = tt
  by_element place (element.Hardware f) is part = tt
  by_element place (element.Operand f) is part = tt

  by_form : (place : ℕ) (e : Element) → slice_get s.elements place ≡ Some e → AllHold (FromForm s) (instructions_at s.at s.machine s.isa s.elements (suc place) e)
  by_form place e is = at (takes_part s.machine s.isa e) refl where
    at : (b : Bool) → takes_part s.machine s.isa e ≡ b → AllHold (FromForm s) (instructions_at s.at s.machine s.isa s.elements (suc place) e)
    at true part = subst (λ b. AllHold (FromForm s) (if b then instructions_in s.at s.elements (suc place) e else [])) (sym part) (by_element place e is part)
    at false part = subst (λ b. AllHold (FromForm s) (if b then instructions_in s.at s.elements (suc place) e else [])) (sym part) tt

  by_forms : (place number : ℕ) (rest : List Element) → number ≡ suc place → ((k : ℕ) (e : Element) → slice_get rest k ≡ Some e → slice_get s.elements (k + place) ≡ Some e) → AllHold (FromForm s) (expanded_from s.at s.machine s.isa s.elements number rest)
  by_forms place number [] same there = tt
  by_forms place number (e ∷ rest) same there =
      let next : number + 1 ≡ suc (suc place) = omega (arith, same) in
      all_append (FromForm s) (instructions_at s.at s.machine s.isa s.elements number e) (expanded_from s.at s.machine s.isa s.elements (number + 1) rest)
      (subst (λ n. AllHold (FromForm s) (instructions_at s.at s.machine s.isa s.elements n e)) (sym same) (by_form place e (ap (λ n. slice_get s.elements n) (first place) ∙ there 0 e refl)))
      (by_forms (suc place) (number + 1) rest next (λ k f is. ap (λ n. slice_get s.elements n) (moved k place) ∙ there (suc k) f is)) where
        first : (place : ℕ) → place ≡ 0 + place
        first place = omega arith

        moved : (k place : ℕ) → k + suc place ≡ suc k + place
        moved k place = omega arith

  pub from_forms : AllHold (FromForm s) (written_in s)
  unfolding expanded
  from_forms = by_forms 0 1 s.elements refl (λ k e is. ap (λ n. slice_get s.elements n) (plain k) ∙ is) where
    plain : (k : ℕ) → k + 0 ≡ k
    plain k = omega arith
