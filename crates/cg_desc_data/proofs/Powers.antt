-- Powers of two that every number of 64 bits is below.
use Rattle.std.proofs.Common.{◌≡◌, ℕ, ◌<◌, ◌≤◌, ◌^◌, nat_lt, true, arith}
use Rattle.std.proofs.Math.Nat.{lt_of_lt_of_le}
use Rattle.std.proofs.Math.Pow.{pow_mono}
use Rattle.std.proofs.lemmas.Bool.Decides.{nat_tests}

lt_true : (a b : ℕ) → a < b → nat_lt a b ≡ true
lt_true a b h = grind (arith, nat_tests)

pub below_all : (n k : ℕ) → n < 2 ^ 64 → 64 ≤ k → nat_lt n (2 ^ k) ≡ true
below_all n k small wide = lt_true n (2 ^ k) (lt_of_lt_of_le small (pow_mono wide))
