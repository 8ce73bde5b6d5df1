-- What the first of the names is that stand for nothing.
use Rattle.std.proofs.Common.{◌≡◌, ℕ, zero, suc, ◌-◌, List, [], ◌∷◌, ◌++◌, Bool, true, false, refl, sym, ap, arith, if◌then◌else◌}
use Rattle.std.specs.Option.{option_or}
use Rattle.std.proofs.lemmas.Grind.{common_steps}
use Rattle.cg_base.specs.declared.form.Form.{Form, out-Form}
use Rattle.cg_base.specs.Parts.{headed}
use Rattle.cg_base.specs.Refusing.{first}
use Rattle.cg_rtl_resolve.specs.Names.{Lacking, is_lack, names_lacking, layer_lacks, call_lacks, lacks_to}
use Rattle.cg_rtl_resolve.specs.declared.scope.Lack.{Lack}
use Rattle.cg_rtl_resolve.specs.declared.scope.Scope.{Scope}
use Rattle.cg_rtl_resolve.proofs.Places.{names_sequence}

pub first_lacking : (wanted : Lack) (xs ys : List Lacking) → first (names_lacking wanted (xs ++ ys)) ≡ option_or (first (names_lacking wanted xs)) (first (names_lacking wanted ys))
first_lacking wanted [] ys = refl
first_lacking wanted (x ∷ xs) ys = by (is_lack wanted x.0) (first_lacking wanted xs ys) where
  by : (b : Bool) → first (names_lacking wanted (xs ++ ys)) ≡ option_or (first (names_lacking wanted xs)) (first (names_lacking wanted ys)) →
      first (if b then x.1 ∷ names_lacking wanted (xs ++ ys) else names_lacking wanted (xs ++ ys)) ≡ option_or (first (if b then x.1 ∷ names_lacking wanted xs else names_lacking wanted xs)) (first (names_lacking wanted ys))
  by true h = refl
  by false h = h

pub lacks_here : (d : ℕ) (s : Scope) (l : List (List ℕ)) (f : Form) → (d ≡ 0 → ⊥) → lacks_to d s l f ≡ layer_lacks s l (call_lacks s (lacks_to (d - 1) s) l (headed f)) (out-Form f)
lacks_here zero s l f h = absurd (h refl)
lacks_here (suc k) s l f h =
    let e : suc k - 1 ≡ k = omega arith in
    ap (λ j. layer_lacks s l (call_lacks s (lacks_to j s) l (headed f)) (out-Form f)) (sym e)

pub ruleset missing_rules = (common_steps, first_lacking, lacks_here, names_sequence)
