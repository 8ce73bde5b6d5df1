-- Which of two places stands first.
use Rattle.std.proofs.Common.{◌≡◌, ℕ, ◌+◌, ◌-◌, ◌<◌, ◌≤◌, true, List, [], ◌∷◌, drop, length, refl, arith}
use Rattle.std.proofs.lemmas.List.{length-drop}
use Rattle.cg_desc_fault_report.specs.Saying.{is_before}

-- a list stands before what is in it
ended : (ps qs : List ℕ) → length ps ≡ 0 → 1 ≤ length qs → is_before ps qs ≡ true
ended [] [] none some = absurd (omega arith)
ended [] (q ∷ qs) none some = refl
ended (p ∷ ps) qs none some = absurd (omega arith)

pub ended_first : (k : ℕ) (ps qs : List ℕ) → length ps ≤ k → k < length qs → is_before (drop k ps) (drop k qs) ≡ true
ended_first k ps qs done more =
    let left = length-drop k ps in
    let right = length-drop k qs in
    ended (drop k ps) (drop k qs) (omega (arith, left, done)) (omega (arith, right, more))
