-- A register's cells stand among all cells.
use Rattle.std.proofs.Common.{◌≡◌, ◌<◌, ◌≤◌, ℕ, zero, suc, ◌+◌, ◌==◌, Bool, true, false, ◌&&◌, List, [], ◌∷◌, length, Option, Some, None, slice_get, is_some, refl, sym, ap, subst, ◌∙◌, arith}
use Rattle.std.proofs.lemmas.Grind.{common_steps}
use Rattle.cg_state.specs.Seen.{stand}
use Rattle.cg_state.specs.declared.register.Register.{Register}

-- They don't end before they begin.
pub reaches : (from to : ℕ) (rs : List Register) → stand from rs to ≡ true → from ≤ to
reaches from to [] h = grind (arith, common_steps)
reaches from to (r ∷ rs) h = let rest = reaches (from + r.count) to rs (grind (arith, common_steps)) in omega arith

-- The cells of one register end within all cells.
pub within : (from to k : ℕ) (r : Register) (rs : List Register) → stand from rs to ≡ true → slice_get rs k ≡ Some r → r.first + r.count ≤ to
within from to k r [] h g = grind (arith, common_steps)
within from to zero r (x ∷ xs) h g =
    let rest = reaches (from + x.count) to xs (grind (arith, common_steps)) in grind (arith, common_steps)
within from to (suc k) r (x ∷ xs) h g = within (from + x.count) to k r xs (grind (arith, common_steps)) (grind (arith, common_steps))
