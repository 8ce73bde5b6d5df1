-- The instructions that have a form's number are those that the form becomes.
use Rattle.std.proofs.Common.{◌≡◌, ◌∙◌, ℕ, suc, ◌+◌, ◌≤◌, ◌==◌, Bool, true, false, if◌then◌else◌, List, [], ◌∷◌, ◌++◌, take, refl, ap, arith}
use Rattle.std.proofs.lemmas.Bool.Decides.{nat_tests}
use Rattle.cg_desc_choices.specs.declared.written.Written.{Written}
use Rattle.cg_desc_choices.specs.Choices.{Chosen, with_choices}
use Rattle.cg_desc_choices.specs.Ways.{ways, most, each_choice}
use Rattle.cg_desc_data.specs.Selecting.{Selection}
use Rattle.cg_desc_scope.specs.Described.{written_in}
use Rattle.cg_desc_scope.specs.Texts.{of_form}
use Rattle.cg_desc_elements.specs.Belonging.{takes_part}
use Rattle.cg_desc_elements.specs.declared.element.Element.{Element}
use Rattle.cg_desc_elements.specs.declared.element.Element.TheVariants as element
use Rattle.cg_desc_insns.specs.Choices.{anyofs_of}
use Rattle.cg_desc_insns.specs.Expanded.{instructions_in, instructions_at, expanded_from, expanded}
use Rattle.cg_desc_insns.specs.Written.{written_of}
use Rattle.cg_insn.specs.declared.form.InsnForm.TheVariants as insn
use Rattle.cg_insn.specs.declared.form.InstructionForm.{InstructionForm}
use Rattle.cg_desc_laws.proofs.Members.{AllHold, all_append, all_map}

-- what holds of each holds of each where it is enough
pub all_so : {A : Type 0} (P Q : A → Type 0) → ((x : A) → P x → Q x) → (xs : List A) → AllHold P xs → AllHold Q xs
all_so P Q h [] all = tt
all_so P Q h (x ∷ xs) all = (h x all.0, all_so P Q h xs all.1)

same_number : (n k : ℕ) → n ≡ k → (n == k) ≡ true
same_number n k e = grind (arith, nat_tests)

other_number : (n k : ℕ) → suc k ≤ n → (n == k) ≡ false
other_number n k e = grind (arith, nat_tests)

earlier_number : (n k : ℕ) → suc n ≤ k → (n == k) ≡ false
earlier_number n k e = grind (arith, nat_tests)

-- those of this number in front, and those of other numbers
all_of_it : (n : ℕ) (ws rest : List Written) → AllHold (λ w. w.form ≡ n) ws → of_form n (ws ++ rest) ≡ ws ++ of_form n rest
all_of_it n [] rest all = refl
all_of_it n (w ∷ ws) rest all =
    ap (λ b. if b then w ∷ of_form n (ws ++ rest) else of_form n (ws ++ rest)) (same_number w.form n all.0) ∙ ap (λ xs. w ∷ xs) (all_of_it n ws rest all.1)

none_in_front : (n : ℕ) (ws rest : List Written) → AllHold (λ w. (w.form == n) ≡ false) ws → of_form n (ws ++ rest) ≡ of_form n rest
none_in_front n [] rest all = refl
none_in_front n (w ∷ ws) rest all =
    ap (λ b. if b then w ∷ of_form n (ws ++ rest) else of_form n (ws ++ rest)) all.0 ∙ none_in_front n ws rest all.1

none_of_it : (n : ℕ) (ws : List Written) → AllHold (λ w. (w.form == n) ≡ false) ws → of_form n ws ≡ []
none_of_it n [] all = refl
none_of_it n (w ∷ ws) all = ap (λ b. if b then w ∷ of_form n ws else of_form n ws) all.0 ∙ none_of_it n ws all.1

pub and_nothing : {A : Type 0} (xs : List A) → xs ++ [] ≡ xs
and_nothing [] = refl
and_nothing (x ∷ xs) = ap (λ ys. x ∷ ys) (and_nothing xs)

module _ (s : Selection) where
  with_number : (number : ℕ) (form : InstructionForm) (cs : List Chosen) → (with_choices cs (written_of s.at s.elements number form)).form ≡ number
  unfolding with_choices written_of
  with_number number form cs = refl

  by_choices : (number : ℕ) (form : InstructionForm) → AllHold (λ w. w.form ≡ number) (instructions_in s.at s.elements number (element.Insn (insn.Instruction form)))
  unfolding each_choice
  by_choices number form =
      all_map (λ (w : Written). w.form ≡ number) (λ cs. with_choices cs (written_of s.at s.elements number form)) (λ cs. with_number number form cs)
      (take most (ways (anyofs_of s.at s.elements (written_of s.at s.elements number form).parts)))

  numbered_in : (number : ℕ) (e : Element) → AllHold (λ w. w.form ≡ number) (instructions_in s.at s.elements number e)
  numbered_in number (element.Insn (insn.Instruction form)) = by_choices number form
  numbered_in number (element.Insn (insn.Macro form)) = tt
  numbered_in number (element.Frame f) = tt
  numbered_in number (element.Field f) = tt
  numbered_in number (element.Hardware f) = tt
  numbered_in number (element.Operand f) = tt

  numbered_at : (number : ℕ) (e : Element) → AllHold (λ w. w.form ≡ number) (instructions_at s.at s.machine s.isa s.elements number e)
  numbered_at number e = at (takes_part s.machine s.isa e) where
    at : (b : Bool) → AllHold (λ w. w.form ≡ number) (if b then instructions_in s.at s.elements number e else [])
    at true = numbered_in number e
    at false = tt

  -- those of later forms have later numbers
  later : (number : ℕ) (es : List Element) → AllHold (λ w. number ≤ w.form) (expanded_from s.at s.machine s.isa s.elements number es)
  later number [] = tt
  later number (e ∷ es) =
      all_append (λ (w : Written). number ≤ w.form) (instructions_at s.at s.machine s.isa s.elements number e) (expanded_from s.at s.machine s.isa s.elements (number + 1) es)
      (all_so (λ (w : Written). w.form ≡ number) (λ w. number ≤ w.form) (λ w same. equal w.form number same) (instructions_at s.at s.machine s.isa s.elements number e) (numbered_at number e))
      (all_so (λ (w : Written). number + 1 ≤ w.form) (λ w. number ≤ w.form) (λ w more. less w.form number more) (expanded_from s.at s.machine s.isa s.elements (number + 1) es) (later (number + 1) es)) where
        equal : (n k : ℕ) → n ≡ k → k ≤ n
        equal n k same = omega (arith, same)

        less : (n k : ℕ) → k + 1 ≤ n → k ≤ n
        less n k more = omega (arith, more)

  -- Of each of these forms, which are numbered from `number` on.
  abbrev pub Grouped : ℕ → List Element → Type 0
  Grouped number [] = Unit {0}
  Grouped number (e ∷ es) = (of_form number (written_in s) ≡ instructions_at s.at s.machine s.isa s.elements number e) × Grouped (number + 1) es

  grouped : (number : ℕ) (es : List Element) → ((k : ℕ) → number ≤ k → of_form k (written_in s) ≡ of_form k (expanded_from s.at s.machine s.isa s.elements number es)) → Grouped number es
  grouped number [] h = tt
  grouped number (e ∷ es) h =
      let own : List Written = instructions_at s.at s.machine s.isa s.elements number e in
      let rest : List Written = expanded_from s.at s.machine s.isa s.elements (number + 1) es in
      let none : of_form number rest ≡ [] = none_of_it number rest (all_so (λ (w : Written). number + 1 ≤ w.form) (λ w. (w.form == number) ≡ false) (λ w more. other_number w.form number (next w.form number more)) rest (later (number + 1) es)) in
      let here : of_form number (own ++ rest) ≡ own = all_of_it number own rest (numbered_at number e) ∙ ap (λ xs. own ++ xs) none ∙ and_nothing own in
      (h number (itself number) ∙ here, grouped (number + 1) es (λ k more. h k (less number k more) ∙ none_in_front k own rest (all_so (λ (w : Written). w.form ≡ number) (λ w. (w.form == k) ≡ false) (λ w same. earlier_number w.form k (before w.form number k same more)) own (numbered_at number e)))) where
        next : (n k : ℕ) → k + 1 ≤ n → suc k ≤ n
        next n k more = omega (arith, more)

        itself : (n : ℕ) → n ≤ n
        itself n = omega arith

        less : (n k : ℕ) → n + 1 ≤ k → n ≤ k
        less n k more = omega (arith, more)

        before : (a n k : ℕ) → a ≡ n → n + 1 ≤ k → suc a ≤ k
        before a n k same more = omega (arith, same, more)

  pub all_grouped : Grouped 1 s.elements
  unfolding expanded
  all_grouped = grouped 1 s.elements (λ k more. refl)
