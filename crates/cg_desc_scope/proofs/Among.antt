-- What stands among texts with one more.
use Rattle.std.proofs.Common.{◌≡◌, ℕ, Bool, true, false, ◌||◌, List, [], ◌∷◌, ◌++◌, refl, ap, ◌∙◌, if◌then◌else◌}
use Rattle.std.proofs.lemmas.Grind.{common_steps}
use Rattle.cg_base.specs.Texts.{same_text, is_among}
use Rattle.cg_desc_insns.specs.Choices.{distinct_behind}
use Rattle.cg_desc_scope.specs.Once.{with_once}

or_none : (b : Bool) → (b || false) ≡ b
or_none true = refl
or_none false = refl

or_behind : (a b c : Bool) → (a || (b || c)) ≡ ((a || b) || c)
or_behind true b c = refl
or_behind false b c = refl

pub among_more : (xs : List (List ℕ)) (x name : List ℕ) → is_among (xs ++ x ∷ []) name ≡ (is_among xs name || same_text x name)
among_more [] x name = or_none (same_text x name)
among_more (z ∷ zs) x name = ap (λ b. same_text z name || b) (among_more zs x name) ∙ or_behind (same_text z name) (is_among zs name) (same_text x name)

pub after_one : {A : Type 0} (xs ys : List A) (x : A) → (xs ++ x ∷ []) ++ ys ≡ xs ++ x ∷ ys
after_one [] ys x = refl
after_one (z ∷ xs) ys x = ap (λ t. z ∷ t) (after_one xs ys x)

pub none_after : {A : Type 0} (xs : List A) → xs ++ [] ≡ xs
none_after [] = refl
none_after (z ∷ xs) = ap (λ t. z ∷ t) (none_after xs)

step : (b : Bool) (xs : List (List ℕ)) (x : List ℕ) (rest : List (List ℕ)) → (if b then xs else xs ++ x ∷ []) ++ distinct_behind (if b then xs else xs ++ x ∷ []) rest ≡ xs ++ (if b then distinct_behind xs rest else x ∷ distinct_behind (xs ++ x ∷ []) rest)
step true xs x rest = refl
step false xs x rest = after_one xs (distinct_behind (xs ++ x ∷ []) rest) x

-- one text more
pub once_next : (xs : List (List ℕ)) (x : List ℕ) (rest : List (List ℕ)) → with_once xs x ++ distinct_behind (with_once xs x) rest ≡ xs ++ distinct_behind xs (x ∷ rest)
unfolding with_once
once_next xs x rest = step (is_among xs x) xs x rest

pub ruleset among_rules = (common_steps, among_more)

pub ruleset once_rules = (common_steps, once_next, none_after)
