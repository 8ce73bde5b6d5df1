-- Short lists, an element at a time.
use Rattle.std.proofs.Common.{◌≡◌, List, [], ◌∷◌, refl}
use Rattle.std.specs.Option.{option_map}
use Rattle.cg_base.specs.Parts.{only}
use Rattle.cg_top_include.specs.Shape.{three, four}

pub three_by_only : {A : Type 0} (x y : A) (xs : List A) → three (x ∷ y ∷ xs) ≡ option_map (λ z. (x, y, z)) (only xs)
three_by_only x y [] = refl
three_by_only x y (z ∷ []) = refl
three_by_only x y (z ∷ w ∷ xs) = refl

pub four_by_three : {A : Type 0} (x : A) (xs : List A) → four (x ∷ xs) ≡ option_map (λ z. (x, z.0, z.1, z.2)) (three xs)
four_by_three x [] = refl
four_by_three x (a ∷ []) = refl
four_by_three x (a ∷ b ∷ []) = refl
four_by_three x (a ∷ b ∷ c ∷ []) = refl
four_by_three x (a ∷ b ∷ c ∷ d ∷ xs) = refl
