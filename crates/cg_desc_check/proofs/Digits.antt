-- Bytes in hexadecimal digits, and the first few of some bytes.
use Rattle.std.proofs.Common.{◌≡◌, ◌⊎◌, inl, inr, ◌++◌, ◌<◌, ◌≤◌, ℕ, min, List, length, take, append_assoc, sym, ap, ◌∙◌, arith}
use Rattle.std.proofs.lemmas.Bool.{cases_lt}
use Rattle.std.proofs.lemmas.List.{take_all}
use Rattle.std.proofs.lemmas.Grind.{common_steps}

-- as many as there are at most
pub take_some : {A : Type 0} (n : ℕ) (xs : List A) → take (min n (length xs)) xs ≡ take n xs
take_some n xs = by (cases_lt n (length xs)) where
  by : (n < length xs) ⊎ (length xs ≤ n) → take (min n (length xs)) xs ≡ take n xs
  by (inl lt) =
      let few : min n (length xs) ≡ n = omega (arith, lt) in
      ap (λ k. take k xs) few
  by (inr ge) =
      let all : min n (length xs) ≡ length xs = omega (arith, ge) in
      ap (λ k. take k xs) all ∙ take_all (length xs) xs (omega arith) ∙ sym (take_all n xs ge)

pub ruleset digit_rules = (common_steps, append_assoc)
