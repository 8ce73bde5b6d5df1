-- What stands in an expression, one list inwards.
use Rattle.std.proofs.Common.{◌≡◌, ℕ, zero, suc, ◌-◌, List, [], ◌∷◌, ◌++◌, refl, sym, ap, arith}
use Rattle.std.proofs.lemmas.Grind.{common_steps}
use Rattle.std.specs.Option.{unwrap_or}
use Rattle.cg_base.specs.declared.form.Form.{Form}
use Rattle.cg_base.specs.Parts.{elements_of}
use Rattle.cg_desc_scope.specs.Texts.{text_of_error, texts_by, texts_to}

pub texts_here : (d : ℕ) (f : Form) → (d ≡ 0 → ⊥) → texts_to d f ≡ texts_by (texts_to (d - 1)) (unwrap_or (elements_of f) []) (text_of_error f)
texts_here zero f h = absurd (h refl)
texts_here (suc k) f h =
    let e : suc k - 1 ≡ k = omega arith in
    ap (λ j. texts_by (texts_to j) (unwrap_or (elements_of f) []) (text_of_error f)) (sym e)

pub none_after : {A : Type 0} (xs : List A) → xs ++ [] ≡ xs
none_after [] = refl
none_after (z ∷ xs) = ap (λ t. z ∷ t) (none_after xs)

pub ruleset text_rules = (common_steps, none_after, texts_here)
