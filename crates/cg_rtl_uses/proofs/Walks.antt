-- What stands in an expression, one list inwards.
use Rattle.std.proofs.Common.{◌≡◌, ℕ, zero, suc, ◌-◌, List, [], ◌∷◌, refl, sym, ap, arith}
use Rattle.std.proofs.lemmas.Grind.{common_steps}
use Rattle.cg_base.specs.declared.form.Form.{Form, out-Form}
use Rattle.cg_base.specs.Parts.{headed}
use Rattle.cg_rtl_resolve.specs.declared.scope.Scope.{Scope}
use Rattle.cg_rtl_resolve.proofs.Places.{names_outside, names_sequence}
use Rattle.cg_rtl_uses.specs.Uses.{layer_uses, call_uses, uses_to}
use Rattle.cg_rtl_uses.proofs.Paths.{places_root, places_inside, none_after, under_inside, under_append, under_root, at_append, each_more}

pub uses_here : (d : ℕ) (s : Scope) (l : List (List ℕ)) (f : Form) → (d ≡ 0 → ⊥) → uses_to d s l f ≡ layer_uses s l (call_uses s (uses_to (d - 1) s) l (headed f)) (out-Form f)
uses_here zero s l f h = absurd (h refl)
uses_here (suc k) s l f h =
    let e : suc k - 1 ≡ k = omega arith in
    ap (λ j. layer_uses s l (call_uses s (uses_to j s) l (headed f)) (out-Form f)) (sym e)

pub ruleset walk_rules = (common_steps, places_root, places_inside, none_after, under_inside, under_append, under_root, at_append, each_more, names_outside, names_sequence, uses_here)
