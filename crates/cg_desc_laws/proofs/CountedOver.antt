-- A description without a fault has 4,096 instructions at most.
use Rattle.std.proofs.Common.{◌≡◌, ◌∙◌, ℕ, zero, suc, ◌+◌, ◌≤◌, ◌<◌, true, ◌==◌, if◌then◌else◌, List, [], ◌∷◌, map, length, Option, Some, None, slice_get, refl, sym, ap, inl, inr, arith, codes}
use Rattle.std.specs.List.{filter_map, cons_option}
use Rattle.std.specs.Option.{option_map}
use Rattle.std.proofs.lemmas.Bool.{cases_lt}
use Rattle.std.proofs.lemmas.Bool.Decides.{nat_tests}
use Rattle.cg_base.specs.declared.form.Top.{Top}
use Rattle.cg_base.specs.Texts.{passes}
use Rattle.cg_desc_fault_count.specs.Counts.{counts_at}
use Rattle.cg_desc_choices.specs.declared.written.Written.{Written}
use Rattle.cg_desc_data.specs.Selecting.{Selection}
use Rattle.cg_desc_scope.specs.Described.{described, written_in}
use Rattle.cg_desc_scope.specs.Texts.{of_form}
use Rattle.cg_desc_elements.specs.declared.element.Element.{Element}
use Rattle.cg_desc_elements.specs.declared.element.Element.TheVariants as element
use Rattle.cg_desc_elements.specs.Reading.{element_at, first_refusal}
use Rattle.cg_desc_insns.specs.E317.{form_over, e317}
use Rattle.cg_desc_fault_least.specs.Least.{faults_at, by_elements}
use Rattle.cg_insn.specs.declared.form.InsnForm.TheVariants as insn
use Rattle.cg_model.specs.declared.machine.Machine.{Machine}
use Rattle.cg_rtl_resolve.specs.declared.scope.Scope.{Scope}
use Rattle.cg_desc_fault_report.specs.Saying.{only_text}
use Rattle.cg_desc_laws.proofs.CountedLimits.{none_mapped}
use Rattle.cg_desc_laws.proofs.Clear.{none_said, ClearForm, clear_form}
use Rattle.cg_desc_laws.proofs.Forms.{GivenAt, given_in_order}
use Rattle.cg_desc_laws.proofs.Members.{held}
use Rattle.cg_desc_laws.proofs.Origins.{FromForm, from_forms}

-- The one of a place that a list has, or none.
record Has {A : Type 0} (xs : List A) (k : ℕ) : Type 0 where
  one : A
  is : slice_get xs k ≡ Some one

has : {A : Type 0} (xs : List A) (k : ℕ) → k < length xs → Has xs k
has [] k few = absurd (omega (arith, few))
has (x ∷ xs) zero few = record { one = x; is = refl }
has (x ∷ xs) (suc k) few = let h : Has xs k = has xs k (omega (arith, few)) in record { one = h.one; is = h.is }

same_number : (n : ℕ) → (n == n) ≡ true
same_number n = grind (arith, nat_tests)

pub fewer : {A B : Type 0} (f : A → Option B) (xs : List A) → length (filter_map f xs) ≤ length xs
fewer f [] = omega arith
fewer {A} {B} f (x ∷ xs) = at (f x) (fewer f xs) where
  at : (o : Option B) → length (filter_map f xs) ≤ length xs → length (cons_option o (filter_map f xs)) ≤ length (x ∷ xs)
  at None rest = omega (arith, rest)
  at (Some y) rest = omega (arith, rest)

-- the form that is over is said at it
over_said : (ws : List Written) (w : Written) → slice_get ws 4096 ≡ Some w → e317 ws w.form ≡ codes "4096" ∷ []
unfolding form_over
over_said ws w is =
    ap (λ o. if passes (λ n. n == w.form) (option_map (λ (v : Written). v.form) o) then codes "4096" ∷ [] else []) is
    ∙ ap (λ b. if b then codes "4096" ∷ [] else []) (same_number w.form)

module _ (s : Selection) (scope : Scope) (m : Machine) (tops : List Top) (alone : first_refusal tops ≡ None) (elements : s.elements ≡ filter_map element_at tops) (none : by_elements (described s) scope m tops ≡ None) where
  none_over : (w : Written) → slice_get (written_in s) 4096 ≡ Some w → ⊥
  none_over w is =
      let o : FromForm s w = held (FromForm s) (written_in s) w (from_forms s) (record { place = 4096; is = is }) in
      let e : Element = element.Insn (insn.Instruction o.form) in
      let g : GivenAt tops o.place e = given_in_order tops o.place e alone (ap (λ es. slice_get es o.place) (sym elements) ∙ o.is) in
      let c : ClearForm (described s) scope m (o.place + 1) e g.top = clear_form (described s) scope m tops none o.place e g.top o.is g.on o.part in
      let ws : List Written = of_form (o.place + 1) (written_in s) in
      let said : map only_text (e317 (written_in s) (o.place + 1)) ≡ [] =
      none_said (faults_at (described s) scope m c.before.counts (counts_at (described s) scope c.before (o.place + 1) e g.top.form ws) (o.place + 1) e g.top.form ws) c.values 14 317 (map only_text (e317 (written_in s) (o.place + 1))) refl in
      let number : w.form ≡ o.place + 1 = o.number ∙ next o.place in
      let there : e317 (written_in s) (o.place + 1) ≡ codes "4096" ∷ [] = ap (λ n. e317 (written_in s) n) (sym number) ∙ over_said (written_in s) w is in
      some (sym there ∙ none_mapped only_text (e317 (written_in s) (o.place + 1)) said) where
        next : (k : ℕ) → suc k ≡ k + 1
        next k = omega arith

        some : codes "4096" ∷ [] ≡ [] → ⊥
        some e = absurd cc

  pub written_few : length (written_in s) ≤ 4096
  written_few = elim (cases_lt 4096 (length (written_in s))) [ inl lt ↦ (let h : Has (written_in s) 4096 = has (written_in s) 4096 lt in absurd (none_over h.one h.is)) | inr le ↦ le ]
