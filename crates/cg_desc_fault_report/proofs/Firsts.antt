-- The first of lists that are joined or mapped, and the least of what is said under numbers.
use Rattle.std.proofs.Common.{◌≡◌, ℕ, map, List, [], ◌∷◌, ◌++◌, Option, Some, None, refl, sym, ap, ◌∙◌}
use Rattle.std.specs.Option.{option_or, option_map}
use Rattle.std.proofs.lemmas.Grind.{common_steps}
use Rattle.cg_base.specs.Refusing.{first}
use Rattle.cg_desc_fault_report.specs.Saying.{Numbered, with_number, least_said}

pub first_append : {A : Type 0} (xs ys : List A) → first (xs ++ ys) ≡ option_or (first xs) (first ys)
first_append [] ys = refl
first_append (x ∷ xs) ys = refl

pub first_map : {A B : Type 0} (f : A → B) (xs : List A) → first (map f xs) ≡ option_map f (first xs)
first_map f [] = refl
first_map f (x ∷ xs) = refl

pub or_assoc : {A : Type 0} (a b c : Option A) → option_or (option_or a b) c ≡ option_or a (option_or b c)
or_assoc None b c = refl
or_assoc (Some x) b c = refl

pub least_append : (xs ys : Numbered) → least_said (xs ++ ys) ≡ option_or (least_said xs) (least_said ys)
least_append [] ys = refl
least_append (x ∷ xs) ys =
    ap (λ a. option_or (option_map (with_number x.0) (first x.1)) a) (least_append xs ys) ∙ sym (or_assoc (option_map (with_number x.0) (first x.1)) (least_said xs) (least_said ys))

pub none_after : {A : Type 0} (xs : List A) → xs ++ [] ≡ xs
none_after [] = refl
none_after (z ∷ xs) = ap (λ t. z ∷ t) (none_after xs)

pub ruleset first_rules = (common_steps, first_append, first_map)

pub ruleset put_rules = (common_steps, none_after)
