-- Expressions where anyof operands may be chosen, and where none may.
use Rattle.std.proofs.Common.{◌≡◌, ℕ, ◌≤◌, List, [], ◌∷◌, ◌++◌, Option, Some, None, length, refl, arith}
use Rattle.std.specs.List.{flat_map}
use Rattle.cg_base.specs.declared.form.Form.{Form}
use Rattle.cg_model.specs.declared.machine.Machine.{Machine}
use Rattle.cg_rtl_resolve.specs.declared.scope.Scope.{Scope}
use Rattle.cg_desc_choices.specs.declared.written.Written.{Written}
use Rattle.cg_desc_fault_rtl.specs.declared.asking.Asked.{Asked}
use Rattle.cg_desc_fault_rtl.specs.declared.asking.Asked.TheVariants.{All, PutIn}
use Rattle.cg_desc_fault_rtl.specs.declared.asking.Expression.{Expression}
use Rattle.cg_desc_fault_rtl.specs.Expressions.{as_written, with_each}

pub with_none : (given : Asked → Written → List Expression) (m : Machine) (own : List ℕ) (scope : Scope) (anyofs : List (List ℕ)) (f : Option Form) (ws : List Written) → length anyofs ≡ 0 → with_each given m own scope anyofs f ws ≡ flat_map (given All) ws
with_none given m own scope [] f ws none = refl
with_none given m own scope (x ∷ xs) f ws none = absurd (omega arith)

pub with_some : (given : Asked → Written → List Expression) (m : Machine) (own : List ℕ) (scope : Scope) (anyofs : List (List ℕ)) (f : Form) (ws : List Written) → 1 ≤ length anyofs → with_each given m own scope anyofs (Some f) ws ≡ as_written m own scope anyofs f ++ flat_map (given PutIn) ws
with_some given m own scope [] f ws some = absurd (omega arith)
with_some given m own scope (x ∷ xs) f ws some = refl

pub with_no_form : (given : Asked → Written → List Expression) (m : Machine) (own : List ℕ) (scope : Scope) (anyofs : List (List ℕ)) (ws : List Written) → 1 ≤ length anyofs → with_each given m own scope anyofs None ws ≡ []
with_no_form given m own scope [] ws some = absurd (omega arith)
with_no_form given m own scope (x ∷ xs) ws some = refl
