-- The cells of the registers of hardware stand one behind the other.
use Rattle.std.proofs.Common.{◌≡◌, ℕ, ◌+◌, ◌==◌, Bool, true, false, ◌&&◌, List, [], ◌∷◌, refl, sym, ap, subst, ◌∙◌, arith}
use Rattle.std.proofs.lemmas.Grind.{common_steps}
use Rattle.cg_model.specs.declared.hardware.Hardware.{Hardware}
use Rattle.cg_state.specs.Seen.{stand}
use Rattle.cg_state.specs.Starting.{cells_in, registers_from, all_cells}

same : (n : ℕ) → (n == n) ≡ true
same n = grind (arith, common_steps)

pub stands : (n : ℕ) (hs : List Hardware) → stand n (registers_from n hs) (n + all_cells hs) ≡ true
stands n [] = grind (arith, common_steps)
stands n (h ∷ hs) =
    let e : n + cells_in h + all_cells hs ≡ n + (cells_in h + all_cells hs) = omega arith in
    let rest : stand (n + cells_in h) (registers_from (n + cells_in h) hs) (n + (cells_in h + all_cells hs)) ≡ true = subst (λ k. stand (n + cells_in h) (registers_from (n + cells_in h) hs) k ≡ true) e (stands (n + cells_in h) hs) in
    ap (λ b. b && stand (n + cells_in h) (registers_from (n + cells_in h) hs) (n + (cells_in h + all_cells hs))) (same n) ∙ rest

pub all_stand : (hs : List Hardware) → stand 0 (registers_from 0 hs) (all_cells hs) ≡ true
all_stand hs =
    let e : 0 + all_cells hs ≡ all_cells hs = omega arith in
    subst (λ k. stand 0 (registers_from 0 hs) k ≡ true) e (stands 0 hs)
