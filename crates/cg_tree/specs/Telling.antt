-- The bits that tell instructions apart, as masks.
use Rattle.std.specs.Prelude.{◌≡◌, ℕ, zero, suc, ◌+◌, ◌<◌, bit_and, bit_or, bit_xor, true, List, [], ◌∷◌, Option, Some, None, slice_get}
use Rattle.std.specs.Int.{bit_at}
use Rattle.cg_code_mask.specs.declared.format.Constants.{Constants}
use Rattle.cg_tree.specs.Trees.{is_set}

-- The bits that are a constant 1 of an instruction, and those that are a constant 0.
abbrev pub ones_of : Option Constants → ℕ
ones_of None = 0
ones_of (Some c) = bit_and c.cover c.value

abbrev pub zeros_of : Option Constants → ℕ
zeros_of None = 0
zeros_of (Some c) = bit_xor c.cover (bit_and c.cover c.value)

-- Those that are so of any of some instructions.
abbrev pub any_one : List Constants → List ℕ → ℕ
any_one table [] = 0
any_one table (k ∷ ks) = bit_or (ones_of (slice_get table k)) (any_one table ks)

abbrev pub any_zero : List Constants → List ℕ → ℕ
any_zero table [] = 0
any_zero table (k ∷ ks) = bit_or (zeros_of (slice_get table k)) (any_zero table ks)

-- Those that tell two of them apart.
abbrev pub telling : List Constants → List ℕ → ℕ
telling table ks = bit_and (any_zero table ks) (any_one table ks)

-- How many of the lowest n bits of a number are 1.
unfoldable pub ones_below : ℕ → ℕ → ℕ
ones_below zero w = 0
ones_below (suc n) w = ones_below n w + bit_at w n

-- A bit of a number that is 1.
pub record IsOne (w bit : ℕ) : Type 0 where
  pub small : bit < 128
  pub one : is_set w bit ≡ true
