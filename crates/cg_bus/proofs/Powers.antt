-- Powers of 256.
use Rattle.std.proofs.Common.{ℕ, zero, suc, ◌<◌, ◌^◌, arith}
use Rattle.std.proofs.Math.Nat.{pow-zero, pow-suc}

pub byte_power_pos : (width : ℕ) → 0 < 256 ^ width
byte_power_pos zero = omega (arith, pow-zero 256)
byte_power_pos (suc n) = omega (arith, pow-suc 256 n, byte_power_pos n)
