-- What instructions put at the end of a list, one by one.
use Rattle.std.proofs.Common.{◌≡◌, ◌∙◌, ℕ, suc, ◌+◌, ◌<◌, List, ◌∷◌, ◌++◌, length, drop, get_or, drop-cons, append_assoc, sym, ap, arith}
use Rattle.std.specs.Borrow.{Bor}
use Rattle.std.specs.List.{flat_map}
use Rattle.cg_desc_choices.specs.declared.written.Written.{Written}
use Rattle.cg_desc_fault_report.specs.Subject.{lent, all_lent}

-- what stands, with what is left, is the whole; and so it is behind the next instruction
pub put_next : {P : Type 0} (f : Written → List P) (all list now : List P) (items : List (Bor Written)) (k : ℕ) (item : Bor Written) → k < length items → item ≡ get_or items k item → now ≡ list ++ f (lent item) → list ++ flat_map f (all_lent (drop k items)) ≡ all → now ++ flat_map f (all_lent (drop (k + 1) items)) ≡ all
put_next f all list now items k item within is put whole =
    let next : suc k ≡ k + 1 = omega arith in
    let split : drop k items ≡ item ∷ drop (k + 1) items = drop-cons items k item within ∙ ap (λ x. x ∷ drop (suc k) items) (sym is) ∙ ap (λ j. item ∷ drop j items) next in
    ap (λ xs. xs ++ flat_map f (all_lent (drop (k + 1) items))) put ∙ append_assoc list (f (lent item)) (flat_map f (all_lent (drop (k + 1) items))) ∙ ap (λ xs. list ++ flat_map f (all_lent xs)) (sym split) ∙ whole
