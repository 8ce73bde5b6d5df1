-- The first of what several instructions give, one by one, and of two lists.
use Rattle.std.proofs.Common.{◌≡◌, ◌∙◌, ℕ, suc, ◌+◌, ◌<◌, List, ◌∷◌, ◌++◌, length, drop, get_or, drop-cons, Option, Some, None, Result, Ok, Err, IfOk, sym, ap, arith}
use Rattle.std.specs.Borrow.{Bor}
use Rattle.std.specs.List.{flat_map}
use Rattle.std.specs.Option.{option_map, option_or}
use Rattle.cg_base.specs.Refusing.{first}
use Rattle.cg_desc_choices.specs.declared.written.Written.{Written}
use Rattle.cg_desc_fault_report.specs.Subject.{lent, all_lent}
use Rattle.cg_desc_fault_report.proofs.Firsts.{first_append}

module _ {A B : Type 0} (see : A → B) (f : Written → List B) (all : Option B) (items : List (Bor Written)) (k : ℕ) (item : Bor Written) (found : Option A) where
  abbrev behind : List B
  behind = flat_map f (all_lent (drop (k + 1) items))

  -- what an instruction and those behind it give
  split : k < length items → item ≡ get_or items k item → first (flat_map f (all_lent (drop k items))) ≡ all → option_or (first (f (lent item))) (first behind) ≡ all
  split within is whole =
      let next : suc k ≡ k + 1 = omega arith in
      let parts : drop k items ≡ item ∷ drop (k + 1) items = drop-cons items k item within ∙ ap (λ x. x ∷ drop (suc k) items) (sym is) ∙ ap (λ j. item ∷ drop j items) next in
      sym (first_append (f (lent item)) (flat_map f (all_lent (drop (k + 1) items)))) ∙ ap (λ xs. first (flat_map f (all_lent xs))) (sym parts) ∙ whole

  -- it gives one
  pub first_here : (x : A) → k < length items → item ≡ get_or items k item → option_map see found ≡ first (f (lent item)) → found ≡ Some x → first (flat_map f (all_lent (drop k items))) ≡ all → Some (see x) ≡ all
  first_here x within is tells one whole =
      let e : Some (see x) ≡ first (f (lent item)) = sym (ap (option_map see) one) ∙ tells in
      ap (λ a. option_or a (first behind)) e ∙ split within is whole

  -- it gives none
  pub first_later : k < length items → item ≡ get_or items k item → option_map see found ≡ first (f (lent item)) → found ≡ None → first (flat_map f (all_lent (drop k items))) ≡ all → first (flat_map f (all_lent (drop (k + 1) items))) ≡ all
  first_later within is tells none whole =
      let e : None ≡ first (f (lent item)) = sym (ap (option_map see) none) ∙ tells in
      ap (λ a. option_or a (first (flat_map f (all_lent (drop (k + 1) items))))) e ∙ split within is whole

-- the first list gives none, and what is answered is the first of the other
pub told_later : {A B E : Type 0} (see : A → B) (xs ys : List B) (found : Option A) (result : Result (Option A) E) → option_map see found ≡ first xs → found ≡ None → IfOk result (λ x. option_map see x ≡ first ys) → IfOk result (λ x. option_map see x ≡ first (xs ++ ys))
told_later see xs ys found (Ok x) tells none last =
    let e : None ≡ first xs = sym (ap (option_map see) none) ∙ tells in
    last ∙ ap (λ a. option_or a (first ys)) e ∙ sym (first_append xs ys)
told_later see xs ys found (Err x) tells none last = last
