-- What building an expression gives.
use Rattle.std.proofs.Common.{◌≡◌, ℕ, zero, suc, ◌-◌, List, [], ◌∷◌, ◌++◌, map, length, refl, sym, ap, arith}
use Rattle.std.proofs.lemmas.Grind.{common_steps}
use Rattle.cg_base.specs.declared.form.Form.{Form, out-Form}
use Rattle.cg_base.specs.Parts.{headed}
use Rattle.cg_rtl_resolve.specs.Names.{layer_rtl, call_rtl, rtl_to}
use Rattle.cg_rtl_resolve.specs.declared.scope.Scope.{Scope}
use Rattle.cg_rtl_resolve.proofs.Places.{names_sequence, names_outside}

pub rtl_here : (d : ℕ) (s : Scope) (l : List (List ℕ)) (f : Form) → (d ≡ 0 → ⊥) → rtl_to d s l f ≡ layer_rtl s l (call_rtl s (rtl_to (d - 1) s) l (headed f)) (out-Form f)
rtl_here zero s l f h = absurd (h refl)
rtl_here (suc k) s l f h =
    let e : suc k - 1 ≡ k = omega arith in
    ap (λ j. layer_rtl s l (call_rtl s (rtl_to j s) l (headed f)) (out-Form f)) (sym e)

pub after_one : {A : Type 0} (xs ys : List A) (x : A) → (xs ++ x ∷ []) ++ ys ≡ xs ++ x ∷ ys
after_one [] ys x = refl
after_one (z ∷ xs) ys x = ap (λ t. z ∷ t) (after_one xs ys x)

pub none_after : {A : Type 0} (xs : List A) → xs ++ [] ≡ xs
none_after [] = refl
none_after (z ∷ xs) = ap (λ t. z ∷ t) (none_after xs)

pub as_long : {A B : Type 0} (f : A → B) (xs : List A) → length (map f xs) ≡ length xs
as_long f [] = refl
as_long f (x ∷ xs) = ap suc (as_long f xs)

pub ruleset list_rules = (common_steps, after_one, none_after)

pub ruleset build_rules = (common_steps, after_one, none_after, as_long, rtl_here, names_sequence)
