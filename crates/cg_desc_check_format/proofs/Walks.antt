-- What the first of several faults is, rule by rule.
use Rattle.std.proofs.Common.{◌≡◌, ℕ, suc, max, length-append, ap, ◌∙◌, ◌+◌, length, take, get_or, ◌<◌, ◌≤◌, ◌^◌, Bool, true, nat_lt, List, [], ◌∷◌, ◌++◌, refl, arith}
use Rattle.std.specs.Option.{option_or}
use Rattle.std.proofs.lemmas.Bool.Decides.{nat_tests}
use Rattle.std.proofs.lemmas.Grind.{common_steps}
use Rattle.std.proofs.Math.Nat.{pow-le-pow_right}
use Rattle.std.proofs.Math.Seq.{take-suc}
use Rattle.cg_base.specs.Refusing.{first}
use Rattle.cg_model.specs.Matching.{last_end}
use Rattle.cg_model.specs.declared.machine.Machine.{Machine}

pub first_append : {A : Type 0} (xs ys : List A) → first (xs ++ ys) ≡ option_or (first xs) (first ys)
first_append [] ys = refl
first_append (x ∷ xs) ys = refl

pub ruleset first_rules = (common_steps, first_append)

-- the end of two rows of fields
pub end_of_both : (m : Machine) (ks ls : List ℕ) → last_end m (ks ++ ls) ≡ max (last_end m ks) (last_end m ls)
end_of_both m [] ls = omega arith
end_of_both m (k ∷ ks) ls = omega (arith, end_of_both m ks ls)

pub ruleset end_rules = (common_steps, end_of_both)

pub ruleset count_rules = (common_steps, length-append)

-- a number of 64 bits fits more
pub fits_long : (n length : ℕ) → n < 2 ^ 64 → 64 ≤ length → nat_lt n (2 ^ length) ≡ true
fits_long n length small long =
    let le : 2 ^ 64 ≤ 2 ^ length = pow-le-pow_right {n = 2} (omega arith) {i = 64} {j = length} long in
    let lt : n < 2 ^ length = omega (arith, small, le) in
    grind (arith, nat_tests, lt)

-- so many elements, and the next
pub take_next : {A : Type 0} (xs : List A) (k : ℕ) (d : A) → k < length xs → take (k + 1) xs ≡ take k xs ++ get_or xs k d ∷ []
take_next xs k d within =
    let next : k + 1 ≡ suc k = omega arith in
    ap (λ n. take n xs) next ∙ take-suc xs k d within

pub ruleset before_rules = (common_steps, first_append, take_next)
