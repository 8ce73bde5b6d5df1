-- The least of what is said under numbers, part by part.
use Rattle.std.proofs.Common.{◌≡◌, ◌∙◌, ℕ, ◌++◌, Option, Some, None, Result, Ok, Err, IfOk, sym, ap}
use Rattle.std.specs.Option.{option_or}
use Rattle.cg_desc_fault_report.specs.declared.saying.Saying.{Saying}
use Rattle.cg_desc_fault_report.specs.Saying.{Numbered, least_said}
use Rattle.cg_desc_fault_report.proofs.Firsts.{least_append}

-- what the first of three parts says
pub first_of : (xs ys zs : Numbered) (x : ℕ × Saying) → Some x ≡ least_said xs → Some x ≡ least_said (xs ++ (ys ++ zs))
first_of xs ys zs x some =
    let first : option_or (least_said xs) (least_said (ys ++ zs)) ≡ Some x = ap (λ o. option_or o (least_said (ys ++ zs))) (sym some) in
    sym (least_append xs (ys ++ zs) ∙ first)

-- what the second of three parts says, where the first says nothing
pub second_of : (xs ys zs : Numbered) (x : ℕ × Saying) → None ≡ least_said xs → Some x ≡ least_said ys → Some x ≡ least_said (xs ++ (ys ++ zs))
second_of xs ys zs x none some =
    let behind : option_or (least_said xs) (least_said (ys ++ zs)) ≡ least_said (ys ++ zs) = ap (λ o. option_or o (least_said (ys ++ zs))) (sym none) in
    let first : option_or (least_said ys) (least_said zs) ≡ Some x = ap (λ o. option_or o (least_said zs)) (sym some) in
    sym (least_append xs (ys ++ zs) ∙ (behind ∙ (least_append ys zs ∙ first)))

-- and what the third says, where neither of the others says anything
third_of : (xs ys zs : Numbered) (o : Option (ℕ × Saying)) → None ≡ least_said xs → None ≡ least_said ys → o ≡ least_said zs → o ≡ least_said (xs ++ (ys ++ zs))
third_of xs ys zs o none also same =
    let behind : option_or (least_said xs) (least_said (ys ++ zs)) ≡ least_said (ys ++ zs) = ap (λ p. option_or p (least_said (ys ++ zs))) (sym none) in
    let last : option_or (least_said ys) (least_said zs) ≡ least_said zs = ap (λ p. option_or p (least_said zs)) (sym also) in
    same ∙ sym (least_append xs (ys ++ zs) ∙ (behind ∙ (least_append ys zs ∙ last)))

pub third_where : {E : Type 0} (r : Result (Option (ℕ × Saying)) E) (xs ys zs : Numbered) → None ≡ least_said xs → None ≡ least_said ys → IfOk r (λ o. o ≡ least_said zs)
    → IfOk r (λ o. o ≡ least_said (xs ++ (ys ++ zs)))
third_where (Ok o) xs ys zs none also same = third_of xs ys zs o none also same
third_where (Err e) xs ys zs none also same = tt
