-- What stands behind one more.
use Rattle.std.proofs.Common.{◌≡◌, List, [], ◌∷◌, ◌++◌, append_assoc, refl, ap}
use Rattle.std.proofs.lemmas.Grind.{common_steps}

pub after_one : {A : Type 0} (xs ys : List A) (x : A) → (xs ++ x ∷ []) ++ ys ≡ xs ++ x ∷ ys
after_one [] ys x = refl
after_one (z ∷ xs) ys x = ap (λ t. z ∷ t) (after_one xs ys x)

pub ruleset behind_rules = (common_steps, append_assoc, after_one)
