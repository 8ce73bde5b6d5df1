-- The earliest of a list, from its end on.
use Rattle.std.proofs.Common.{◌≡◌, List, [], ◌∷◌, ◌++◌, Option, Some, None, refl, ap}
use Rattle.std.proofs.lemmas.Grind.{common_steps}
use Rattle.cg_desc_fault_report.specs.declared.saying.Placed.{Placed}
use Rattle.cg_desc_fault_report.specs.Saying.{earlier, earliest}

-- the earliest of some, in front of what is the earliest behind them
abbrev pub earliest_before : List Placed → Option Placed → Option Placed
earliest_before [] best = best
earliest_before (x ∷ xs) best = Some (earlier x (earliest_before xs best))

pub before_none : (xs : List Placed) → earliest_before xs None ≡ earliest xs
before_none [] = refl
before_none (x ∷ xs) = ap (λ best. Some (earlier x best)) (before_none xs)

pub before_last : (xs : List Placed) (x : Placed) (best : Option Placed) → earliest_before (xs ++ x ∷ []) best ≡ earliest_before xs (Some (earlier x best))
before_last [] x best = refl
before_last (y ∷ xs) x best = ap (λ b. Some (earlier y b)) (before_last xs x best)

pub ruleset earliest_rules = (common_steps, before_none, before_last)
