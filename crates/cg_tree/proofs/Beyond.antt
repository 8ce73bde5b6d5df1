-- Single bits of a number.
use Rattle.std.proofs.Common.{◌≡◌, ℕ, ◌^◌, ◌<◌, ◌≤◌, ◌==◌, true, false, ap, subst, sym, ◌∙◌}
use Rattle.std.specs.Int.{w128, trailing_zeros}
use Rattle.std.proofs.lemmas.Nat.Bits.{bit_at_above, bit_at-trailing_zeros}
use Rattle.cg_tree.specs.Trees.{is_set}
use Rattle.cg_tree.specs.Telling.{IsOne}

pub one_there : (w bit : ℕ) → bit < 128 → is_set w bit ≡ true → IsOne w bit
one_there w bit small one = record { small = small; one = one }

-- past its 128 bits a number has none that is 1
pub beyond : (n i : ℕ) → n < 2 ^ 128 → 128 ≤ i → is_set n i ≡ false
beyond n i fits far = ap (λ x. x == 1) (bit_at_above n 128 i fits far)

pub few_zeros : (n : ℕ) → 0 < n → n < 2 ^ 128 → trailing_zeros w128 n < 128
few_zeros n some fits = (bit_at-trailing_zeros w128 n some fits).0

-- the lowest bit of a number that is 1
pub lowest_one : (n r : ℕ) → 0 < n → n < 2 ^ 128 → r ≡ trailing_zeros w128 n → IsOne n r
lowest_one n r some fits is =
    let at : IsOne n (trailing_zeros w128 n) = record { small = few_zeros n some fits; one = ap (λ x. x == 1) (bit_at-trailing_zeros w128 n some fits).1 } in
    subst (IsOne n) (sym is) at

pub ruleset lowest_rules = (few_zeros, lowest_one)
