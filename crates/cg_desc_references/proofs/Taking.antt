-- The front of a list whose items are seen.
use Rattle.std.proofs.Common.{◌≡◌, ℕ, zero, suc, List, [], ◌∷◌, map, take, refl, ap}

pub taken : {A B : Type 0} → (f : A → B) (n : ℕ) (xs : List A) → take n (map f xs) ≡ map f (take n xs)
taken f zero [] = refl
taken f zero (x ∷ xs) = refl
taken f (suc n) [] = refl
taken f (suc n) (x ∷ xs) = ap (λ ys. f x ∷ ys) (taken f n xs)
