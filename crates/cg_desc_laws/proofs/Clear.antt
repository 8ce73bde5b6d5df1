-- Where there is no least refusal, nothing is said of any form that takes part.
use Rattle.std.proofs.Common.{◌≡◌, ℕ, zero, suc, ◌+◌, true, if◌then◌else◌, List, [], ◌∷◌, Option, Some, None, slice_get, refl, sym, ap, ◌∙◌, subst, arith}
use Rattle.std.specs.Option.{option_or}
use Rattle.cg_base.specs.declared.form.Top.{Top}
use Rattle.cg_desc_fault_count.specs.declared.counts.Counts.{Counts}
use Rattle.cg_desc_fault_count.specs.Counts.{Before, nothing_before, counts_at}
use Rattle.cg_desc_choices.specs.declared.written.Written.{Written}
use Rattle.cg_desc_data.specs.Selecting.{takes_part_in}
use Rattle.cg_desc_scope.specs.Described.{Described}
use Rattle.cg_desc_scope.specs.Texts.{of_form}
use Rattle.cg_desc_elements.specs.declared.element.Element.{Element}
use Rattle.cg_desc_fault_least.specs.Least.{faults_at, modes_fault, refusal_at, least_at, by_data_at, data_of, behind_of, by_data_from, by_data, modes_at, by_modes_at, modes_of, by_modes_from, by_modes, by_elements}
use Rattle.cg_model.specs.declared.machine.Machine.{Machine}
use Rattle.cg_rtl_resolve.specs.declared.scope.Scope.{Scope}
use Rattle.cg_desc_fault_report.specs.declared.saying.Saying.{Saying}
use Rattle.cg_desc_fault_report.specs.Saying.{Numbered, least_said}

abbrev said_or : List Saying → Option (ℕ × List Saying) → List Saying
said_or said None = said
said_or said (Some x) = x.1

-- Nothing is said under any number.
pub none_said : (xs : Numbered) → least_said xs ≡ None → (k n : ℕ) (said : List Saying) → slice_get xs k ≡ Some (n, said) → said ≡ []
none_said [] e k n said is = absurd cc
none_said ((number, x ∷ xs) ∷ rest) e k n said is = absurd cc
none_said ((number, []) ∷ rest) e zero n said is = sym (ap (said_or []) is)
none_said ((number, []) ∷ rest) e (suc k) n said is = none_said rest e k n said is

either_none : {A : Type 0} (a b : Option A) → option_or a b ≡ None → (a ≡ None) × (b ≡ None)
either_none None b e = (refl, e)
either_none (Some x) b e = absurd cc

no_refusal : (top : Top) (o : Option (ℕ × Saying)) → refusal_at top o ≡ None → o ≡ None
no_refusal top None e = refl
no_refusal top (Some x) e = absurd cc

abbrev element_or : {A : Type 0} → A → Option A → A
element_or a None = a
element_or a (Some b) = b

-- The form of a number isn't refused by its data, with so much before it.
pub record ClearData (d : Described) (scope : Scope) (m : Machine) (form : ℕ) (e : Element) (top : Top) : Type 0 where
  pub before : Before
  pub none : data_of d scope m before form e top ≡ None

module _ (d : Described) (scope : Scope) (m : Machine) where
  pub clear_data : (b : Before) (form : ℕ) (es : List Element) (tops : List Top) → by_data_from d scope m b form es tops ≡ None
      → (k : ℕ) (e : Element) (top : Top) → slice_get es k ≡ Some e → slice_get tops k ≡ Some top → ClearData d scope m (k + form) e top
  clear_data b form [] tops h k e top at on = absurd cc
  clear_data b form (x ∷ es) [] h k e top at on = absurd cc
  clear_data b form (x ∷ es) (t ∷ tops) h zero e top at on =
      let both : (data_of d scope m b form x t ≡ None) × (by_data_from d scope m (behind_of d scope b form x t) (form + 1) es tops ≡ None) =
      either_none (data_of d scope m b form x t) (by_data_from d scope m (behind_of d scope b form x t) (form + 1) es tops) h in
      let plain : form ≡ 0 + form = omega arith in
      subst (λ n. ClearData d scope m n e top) plain
      (subst (λ y. ClearData d scope m form y top) (ap (element_or x) at)
      (subst (ClearData d scope m form x) (ap (element_or t) on) (record { before = b; none = both.0 })))
  clear_data b form (x ∷ es) (t ∷ tops) h (suc k) e top at on =
      let both : (data_of d scope m b form x t ≡ None) × (by_data_from d scope m (behind_of d scope b form x t) (form + 1) es tops ≡ None) =
      either_none (data_of d scope m b form x t) (by_data_from d scope m (behind_of d scope b form x t) (form + 1) es tops) h in
      let next : k + (form + 1) ≡ suc k + form = omega arith in
      subst (λ n. ClearData d scope m n e top) next (clear_data (behind_of d scope b form x t) (form + 1) es tops both.1 k e top at on)

  pub clear_modes : (form : ℕ) (es : List Element) (tops : List Top) → by_modes_from d scope m form es tops ≡ None
      → (k : ℕ) (e : Element) (top : Top) → slice_get es k ≡ Some e → slice_get tops k ≡ Some top → modes_of d scope m (k + form) e top ≡ None
  clear_modes form [] tops h k e top at on = absurd cc
  clear_modes form (x ∷ es) [] h k e top at on = absurd cc
  clear_modes form (x ∷ es) (t ∷ tops) h zero e top at on =
      let both : (modes_of d scope m form x t ≡ None) × (by_modes_from d scope m (form + 1) es tops ≡ None) =
      either_none (modes_of d scope m form x t) (by_modes_from d scope m (form + 1) es tops) h in
      let plain : form ≡ 0 + form = omega arith in
      subst (λ n. modes_of d scope m n e top ≡ None) plain
      (subst (λ y. modes_of d scope m form y top ≡ None) (ap (element_or x) at) (subst (λ y. modes_of d scope m form x y ≡ None) (ap (element_or t) on) both.0))
  clear_modes form (x ∷ es) (t ∷ tops) h (suc k) e top at on =
      let both : (modes_of d scope m form x t ≡ None) × (by_modes_from d scope m (form + 1) es tops ≡ None) =
      either_none (modes_of d scope m form x t) (by_modes_from d scope m (form + 1) es tops) h in
      let next : k + (form + 1) ≡ suc k + form = omega arith in
      subst (λ n. modes_of d scope m n e top ≡ None) next (clear_modes (form + 1) es tops both.1 k e top at on)

  -- so nothing is said of it, where it takes part
  pub nothing_said : (b : Before) (form : ℕ) (e : Element) (top : Top) → data_of d scope m b form e top ≡ None → takes_part_in d.selection e ≡ true
      → least_said (faults_at d scope m b.counts (counts_at d scope b form e top.form (of_form form d.written)) form e top.form (of_form form d.written)) ≡ None
  unfolding by_data_at
  nothing_said b form e top h part =
      let ws : List Written = of_form form d.written in
      let own : Counts = counts_at d scope b form e top.form ws in
      let none : least_at d scope m b.counts own form e top.form ws ≡ None = no_refusal top (least_at d scope m b.counts own form e top.form ws) h in
      sym (ap (λ c. if c then least_said (faults_at d scope m b.counts own form e top.form ws) else None) part) ∙ none

  pub no_modes_said : (form : ℕ) (e : Element) (top : Top) → modes_of d scope m form e top ≡ None → takes_part_in d.selection e ≡ true → modes_fault d scope m e top.form (of_form form d.written) ≡ None
  unfolding by_modes_at
  no_modes_said form e top h part =
      let ws : List Written = of_form form d.written in
      let none : modes_at d scope m e top.form ws ≡ None = no_refusal top (modes_at d scope m e top.form ws) h in
      sym (ap (λ c. if c then modes_fault d scope m e top.form ws else None) part) ∙ none

-- Of forms without a least refusal: each is without a fault by its data and by its modes.
pub record ClearForm (d : Described) (scope : Scope) (m : Machine) (form : ℕ) (e : Element) (top : Top) : Type 0 where
  pub before : Before
  pub values : least_said (faults_at d scope m before.counts (counts_at d scope before form e top.form (of_form form d.written)) form e top.form (of_form form d.written)) ≡ None
  pub modes : modes_fault d scope m e top.form (of_form form d.written) ≡ None

pub clear_form : (d : Described) (scope : Scope) (m : Machine) (tops : List Top) → by_elements d scope m tops ≡ None
    → (k : ℕ) (e : Element) (top : Top) → slice_get d.selection.elements k ≡ Some e → slice_get tops k ≡ Some top → takes_part_in d.selection e ≡ true → ClearForm d scope m (k + 1) e top
clear_form d scope m tops h k e top at on part =
    let both : (by_data d scope m tops ≡ None) × (by_modes d scope m tops ≡ None) = either_none (by_data d scope m tops) (by_modes d scope m tops) h in
    let c : ClearData d scope m (k + 1) e top = clear_data d scope m nothing_before 1 d.selection.elements tops both.0 k e top at on in
    let modes : modes_of d scope m (k + 1) e top ≡ None = clear_modes d scope m 1 d.selection.elements tops both.1 k e top at on in
    record { before = c.before; values = nothing_said d scope m c.before (k + 1) e top c.none part; modes = no_modes_said d scope m (k + 1) e top modes part }
