-- What putting into an expression gives.
use Rattle.std.proofs.Common.{◌≡◌, ℕ, zero, suc, ◌-◌, List, [], ◌∷◌, ◌++◌, refl, sym, ap, arith}
use Rattle.std.proofs.lemmas.Grind.{common_steps}
use Rattle.cg_base.specs.declared.form.Form.{Form, out-Form}
use Rattle.cg_base.specs.Parts.{headed}
use Rattle.cg_desc_choices.specs.declared.stand.Stand.{Stand}
use Rattle.cg_desc_choices.specs.Putting.{put_layer, put_list, put_to}

pub put_here : (d : ℕ) (ss : List Stand) (f : Form) → (d ≡ 0 → ⊥) → put_to d ss f ≡ put_layer ss f (put_list (put_to (d - 1)) ss f (headed f)) (out-Form f)
put_here zero ss f h = absurd (h refl)
put_here (suc k) ss f h =
    let e : suc k - 1 ≡ k = omega arith in
    ap (λ j. put_layer ss f (put_list (put_to j) ss f (headed f)) (out-Form f)) (sym e)

pub after_one : {A : Type 0} (xs ys : List A) (x : A) → (xs ++ x ∷ []) ++ ys ≡ xs ++ x ∷ ys
after_one [] ys x = refl
after_one (z ∷ xs) ys x = ap (λ t. z ∷ t) (after_one xs ys x)

pub none_after : {A : Type 0} (xs : List A) → xs ++ [] ≡ xs
none_after [] = refl
none_after (z ∷ xs) = ap (λ t. z ∷ t) (none_after xs)

pub all_after : {A : Type 0} (xs ys zs : List A) → (xs ++ ys) ++ zs ≡ xs ++ (ys ++ zs)
all_after [] ys zs = refl
all_after (x ∷ xs) ys zs = ap (λ t. x ∷ t) (all_after xs ys zs)

pub ruleset put_rules = (common_steps, after_one, none_after, all_after, put_here)
