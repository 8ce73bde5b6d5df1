-- An expression, one list inwards.
use Rattle.std.proofs.Common.{◌≡◌, ℕ, zero, suc, ◌-◌, List, refl, sym, ap, arith}
use Rattle.cg_base.specs.declared.form.Form.{Form, out-Form}
use Rattle.cg_base.specs.Parts.{headed}
use Rattle.cg_rtl.specs.Shapes.{layer_faults, call_faults, faults_to}

pub list_within : (d : ℕ) (holder : List ℕ) (f : Form) → (d ≡ 0 → ⊥) → faults_to d holder f ≡ layer_faults (call_faults (faults_to (d - 1)) holder (headed f)) holder (out-Form f)
list_within zero holder f h = absurd (h refl)
list_within (suc k) holder f h =
    let e : suc k - 1 ≡ k = omega arith in
    ap (λ j. layer_faults (call_faults (faults_to j) holder (headed f)) holder (out-Form f)) (sym e)
