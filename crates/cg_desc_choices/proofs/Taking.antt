-- The front of lists that are joined.
use Rattle.std.proofs.Common.{◌≡◌, ℕ, zero, suc, ◌≤◌, List, [], ◌∷◌, ◌++◌, map, take, length, refl, sym, ap, ◌∙◌, arith}
use Rattle.std.proofs.lemmas.List.{take-take, take_all, take-append-le, append-nil}
use Rattle.std.specs.List.{flat_map}
use Rattle.cg_desc_choices.specs.declared.written.Anyof.{Anyof}
use Rattle.cg_desc_choices.specs.declared.written.Choice.{Choice}
use Rattle.cg_desc_choices.specs.Choices.{Chosen}
use Rattle.cg_desc_choices.specs.Ways.{and_chosen, with_each, ways_behind}

-- what is in front of a front is in front of the whole
pub take_over : {A : Type 0} (n : ℕ) (xs ys : List A) → take n (take n xs ++ ys) ≡ take n (xs ++ ys)
take_over zero xs ys = refl
take_over (suc n) [] ys = refl
take_over (suc n) (x ∷ xs) ys = ap (λ t. x ∷ t) (take_over n xs ys)

-- a full list is the front
pub full : {A : Type 0} (n : ℕ) (xs ys t : List A) → length xs ≤ n → n ≤ length xs → take n (xs ++ ys) ≡ t → xs ≡ t
full n xs ys t within past is = sym (take-append-le n xs ys past ∙ take_all n xs within) ∙ is

-- so is one with nothing behind it
pub ended : {A : Type 0} (n : ℕ) (xs t : List A) → length xs ≤ n → take n (xs ++ []) ≡ t → xs ≡ t
ended n xs t within is = sym (ap (take n) (append-nil xs) ∙ take_all n xs within) ∙ is

less : {A : Type 0} (n : ℕ) (xs ys : List A) → take (suc n) xs ≡ take (suc n) ys → take n xs ≡ take n ys
less n xs ys h = sym (take-take n (suc n) xs (omega arith)) ∙ ap (take n) h ∙ take-take n (suc n) ys (omega arith)

behind : {A : Type 0} (n : ℕ) (front xs ys : List A) → take n xs ≡ take n ys → take n (front ++ xs) ≡ take n (front ++ ys)
behind n [] xs ys h = h
behind zero (z ∷ front) xs ys h = refl
behind (suc n) (z ∷ front) xs ys h = ap (λ t. z ∷ t) (behind n front xs ys (less n xs ys h))

-- where there is no choice there is no way
no_way : (operand : List ℕ) (ws : List (List Chosen)) → flat_map (λ w. map (and_chosen operand w) []) ws ≡ []
no_way operand [] = refl
no_way operand (w ∷ ws) = no_way operand ws

some_way : (operand : List ℕ) (c : Choice) (cs : List Choice) (n : ℕ) (ws : List (List Chosen)) →
    take n (flat_map (λ w. map (and_chosen operand w) (c ∷ cs)) (take n ws)) ≡ take n (flat_map (λ w. map (and_chosen operand w) (c ∷ cs)) ws)
some_way operand c cs zero ws = refl
some_way operand c cs (suc n) [] = refl
some_way operand c cs (suc n) (w ∷ ws) =
    ap (λ t. and_chosen operand w c ∷ t)
    (behind n (map (and_chosen operand w) cs)
    (flat_map (λ v. map (and_chosen operand v) (c ∷ cs)) (take n ws)) (flat_map (λ v. map (and_chosen operand v) (c ∷ cs)) ws) (some_way operand c cs n ws))

by_choices : (operand : List ℕ) (cs : List Choice) (n : ℕ) (ws : List (List Chosen)) →
    take n (flat_map (λ w. map (and_chosen operand w) cs) (take n ws)) ≡ take n (flat_map (λ w. map (and_chosen operand w) cs) ws)
by_choices operand [] n ws = ap (take n) (no_way operand (take n ws) ∙ sym (no_way operand ws))
by_choices operand (c ∷ cs) n ws = some_way operand c cs n ws

-- the first ways, with each choice of one operand more, come from the first ways so far
pub each_of_first : (a : Anyof) (n : ℕ) (ws : List (List Chosen)) → take n (flat_map (with_each a) (take n ws)) ≡ take n (flat_map (with_each a) ws)
each_of_first a n ws = by_choices a.operand a.choices n ws

-- and so do the first ways behind them
pub first_behind : (n : ℕ) (rest : List Anyof) (ws : List (List Chosen)) → take n (ways_behind (take n ws) rest) ≡ take n (ways_behind ws rest)
first_behind n [] ws = take-take n n ws (omega arith)
first_behind n (a ∷ rest) ws =
    sym (first_behind n rest (flat_map (with_each a) (take n ws)))
    ∙ ap (λ v. take n (ways_behind v rest)) (each_of_first a n ws)
    ∙ first_behind n rest (flat_map (with_each a) ws)
