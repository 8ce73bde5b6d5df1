-- How the bytes of more digits follow from those of the digits before.
use Rattle.std.proofs.Common.{◌≡◌, ℕ, ◌+◌, ◌*◌, List, [], ◌∷◌, ◌++◌, Option, Some, None, refl, ap, append_assoc, ◌∙◌}
use Rattle.std.specs.Option.{option_map}
use Rattle.cg_base.specs.Parts.{◌>>=◌}
use Rattle.cg_top_include.specs.Shape.{four}
use Rattle.cg_top.specs.Asking.{digit_of, bytes_of, five}

joined : (front : List ℕ) (x : ℕ) (o : Option (List ℕ)) → option_map (λ bs. (front ++ x ∷ []) ++ bs) o ≡ option_map (λ bs. front ++ bs) (o >>= λ bs. Some (x ∷ bs))
joined front x None = refl
joined front x (Some bs) = ap Some (append_assoc front (x ∷ []) bs)

-- a list of just five
pub five_by_four : {A : Type 0} (x : A) (xs : List A) → five (x ∷ xs) ≡ option_map (λ z. (x, z.0, z.1, z.2, z.3)) (four xs)
five_by_four x [] = refl
five_by_four x (a ∷ []) = refl
five_by_four x (a ∷ b ∷ []) = refl
five_by_four x (a ∷ b ∷ c ∷ []) = refl
five_by_four x (a ∷ b ∷ c ∷ d ∷ []) = refl
five_by_four x (a ∷ b ∷ c ∷ d ∷ e ∷ xs) = refl

-- two digits further
pub bytes_of_more : (front s : List ℕ) (a b x y : ℕ) → digit_of a ≡ Some x → digit_of b ≡ Some y →
    option_map (λ bs. (front ++ (16 * x + y) ∷ []) ++ bs) (bytes_of s) ≡ option_map (λ bs. front ++ bs) (bytes_of (a ∷ b ∷ s))
bytes_of_more front s a b x y p q = joined front (16 * x + y) (bytes_of s) ∙ ap (λ o. option_map (λ bs. front ++ bs) o) (rw (p, q))
