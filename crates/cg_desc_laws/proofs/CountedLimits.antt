-- A count that no form passes isn't passed by all of them together.
use Rattle.std.proofs.Common.{◌≡◌, ◌∙◌, ℕ, ◌+◌, ◌≤◌, Bool, true, false, ◌&&◌, nat_le, nat_lt, if◌then◌else◌, List, [], ◌∷◌, map, Option, Some, None, refl, sym, ap, subst, arith}
use Rattle.std.specs.Option.{option_or}
use Rattle.std.proofs.lemmas.Bool.Decides.{nat_tests}
use Rattle.cg_base.specs.declared.form.Top.{Top}
use Rattle.cg_desc_laws_forms.proofs.Lists.{append_none}
use Rattle.cg_desc_fault_count.specs.declared.counts.Counts.{Counts}
use Rattle.cg_desc_fault_count.specs.Counts.{Before, together, counts_at, counts_by, bare_of, texts_of}
use Rattle.cg_desc_fault_count.specs.Known.{count_new}
use Rattle.cg_desc_fault_count.specs.Counts as counts
use Rattle.cg_desc_fault_count.specs.E308.{of_counts, of_own, all_of, e308}
use Rattle.cg_desc_choices.specs.declared.written.Written.{Written}
use Rattle.cg_desc_data.specs.Selecting.{takes_part_in}
use Rattle.cg_desc_scope.specs.Described.{Described}
use Rattle.cg_desc_scope.specs.Texts.{of_form}
use Rattle.cg_desc_elements.specs.declared.element.Element.{Element}
use Rattle.cg_desc_fault_least.specs.Least.{faults_at, data_of, behind_of, by_data_from}
use Rattle.cg_model.specs.declared.machine.Machine.{Machine}
use Rattle.cg_model_faults.specs.declared.fault.MachineFault.{MachineFault}
use Rattle.cg_model_faults.specs.declared.fault.Said.TheVariants.{Count}
use Rattle.cg_model_faults.specs.E308.{passing}
use Rattle.cg_model_faults.specs.Finding.{at_place, where_so}
use Rattle.cg_rtl_resolve.specs.declared.scope.Scope.{Scope}
use Rattle.cg_desc_fault_report.specs.Saying.{fault_said}
use Rattle.cg_desc_laws.proofs.Clear.{none_said, nothing_said}

-- what a test says, where nothing is at fault by it, and where it doesn't hold
test_false : (b : Bool) (f : MachineFault) → where_so b f ≡ [] → b ≡ false
test_false true f e = absurd cc
test_false false f e = refl

pub none_where : (b : Bool) (f : MachineFault) → b ≡ false → where_so b f ≡ []
none_where b f e = ap (λ c. where_so c f) e

-- A limit isn't passed by what is within it; and what doesn't pass it is within it, where what stands before is.
pub not_passed : (limit before now : ℕ) → now ≤ limit → passing limit before now ≡ []
not_passed limit before now few =
    let never : (nat_le before limit && nat_lt limit now) ≡ false = grind (arith, nat_tests) in
    none_where (nat_le before limit && nat_lt limit now) (at_place 308 0 (Count limit) (Count now)) never

pub within : (limit before now : ℕ) → before ≤ limit → passing limit before now ≡ [] → now ≤ limit
within limit before now few none =
    let never : (nat_le before limit && nat_lt limit now) ≡ false = test_false (nat_le before limit && nat_lt limit now) (at_place 308 0 (Count limit) (Count now)) none in
    grind (arith, nat_tests)

pub none_mapped : {A B : Type 0} (f : A → B) (xs : List A) → map f xs ≡ [] → xs ≡ []
none_mapped f [] e = refl
none_mapped f (x ∷ xs) e = absurd cc

pub either_none : {A : Type 0} (a b : Option A) → option_or a b ≡ None → (a ≡ None) × (b ≡ None)
either_none None b e = (refl, e)
either_none (Some x) b e = absurd cc

-- a count, which two parts have together
pub record IsCount (pick : Counts → ℕ) (limit : ℕ) : Type 0 where
  pub adds : (a b : Counts) → pick (together a b) ≡ pick a + pick b
  pub nothing : pick counts.none ≡ 0
  pub kept : (before own : Counts) → of_counts before own ≡ [] → passing limit (pick before) (pick before + pick own) ≡ []

-- what a form adds
abbrev pub own_of : Described → Scope → Before → ℕ → Element → Top → Counts
own_of d scope b form e top = counts_at d scope b form e top.form (of_form form d.written)

-- what these forms and those before them have
abbrev pub counts_behind : Described → Scope → Before → ℕ → List Element → List Top → Counts
counts_behind d scope b form (e ∷ es) (top ∷ tops) = counts_behind d scope (behind_of d scope b form e top) (form + 1) es tops
counts_behind d scope b form _ _ = b.counts

module _ (d : Described) (scope : Scope) (m : Machine) (pick : Counts → ℕ) (limit : ℕ) (is : IsCount pick limit) where
  own_kept : (b : Before) (form : ℕ) (e : Element) (top : Top) → data_of d scope m b form e top ≡ None → pick b.counts ≤ limit → pick b.counts + pick (own_of d scope b form e top) ≤ limit
  own_kept b form e top h few = at (takes_part_in d.selection e) refl where
    ws : List Written
    ws = of_form form d.written

    own : Counts
    own = own_of d scope b form e top

    at : (x : Bool) → takes_part_in d.selection e ≡ x → pick b.counts + pick (own_of d scope b form e top) ≤ limit
    at true part =
        let said : e308 d scope m b.counts own form e top.form ws ≡ [] = none_said (faults_at d scope m b.counts own form e top.form ws) (nothing_said d scope m b form e top h part) 5 308 (e308 d scope m b.counts own form e top.form ws) refl in
        let all : all_of d scope m b.counts own form e top.form ws ≡ [] = none_mapped (fault_said m []) (all_of d scope m b.counts own form e top.form ws) said in
        let mine : of_counts b.counts own ≡ [] = (append_none (of_counts b.counts own) (of_own d scope m form e top.form ws) all).0 in
        within limit (pick b.counts) (pick b.counts + pick own) few (is.kept b.counts own mine)
    at false part =
        let empty : pick (own_of d scope b form e top) ≡ 0 = ap (λ x. pick (if x then record (counts_by d scope (count_new b.bare (bare_of d ws)) ws e) { texts = count_new b.texts (texts_of d e top.form ws) } else counts.none)) part ∙ is.nothing in
        omega (arith, few, empty)

  pub all_kept : (b : Before) (form : ℕ) (es : List Element) (tops : List Top) → by_data_from d scope m b form es tops ≡ None → pick b.counts ≤ limit → pick (counts_behind d scope b form es tops) ≤ limit
  all_kept b form [] tops h few = few
  all_kept b form (e ∷ es) [] h few = few
  all_kept b form (e ∷ es) (top ∷ tops) h few =
      let both : (data_of d scope m b form e top ≡ None) × (by_data_from d scope m (behind_of d scope b form e top) (form + 1) es tops ≡ None) =
      either_none (data_of d scope m b form e top) (by_data_from d scope m (behind_of d scope b form e top) (form + 1) es tops) h in
      let next : pick (behind_of d scope b form e top).counts ≤ limit = subst (λ n. n ≤ limit) (sym (is.adds b.counts (own_of d scope b form e top))) (own_kept b form e top both.0 few) in
      all_kept (behind_of d scope b form e top) (form + 1) es tops both.1 next
