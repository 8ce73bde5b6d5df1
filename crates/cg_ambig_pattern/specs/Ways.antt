-- The settings of the bits that an assertion names, with which a number can be an instruction's.
use Rattle.std.specs.Prelude.{◌≡◌, ℕ, ◌+◌, ◌^◌, ◌<◌, ◌≤◌, Bool, true, ◌&&◌, ◌==◌, slice_index, bit_and, bit_or, bit_xor, count_ones}
use Rattle.cg_ambig_pattern.specs.Settings.{IsPart}
use Rattle.cg_ambig_pattern.specs.Together.{Fits}
use Rattle.cg_ambig_pattern.specs.declared.pairs.Pattern.{Pattern}
use Rattle.cg_ambig_pattern.specs.declared.ways.Ways.{Ways}

-- A number is among the ways.
pub record Has (ways : Ways) (x : ℕ) : Type 0 where
  pub place : ℕ
  pub before : place < ways.count
  pub at : slice_index ways.numbers place ≡ x

-- What was among them still is.
pub record Keeps (old new : Ways) : Type 0 where
  pub has : (x : ℕ) → Has old x → Has new x

-- Each setting of the free bits that passes is among them.
pub record HasPassing (passes : ℕ → Bool) (value free : ℕ) (ways : Ways) : Type 0 where
  pub each : (s : ℕ) → IsPart s free → passes (value + s) ≡ true → Has ways (value + s)

-- Each such setting was added, and no more than there are settings.
pub record Gathered (passes : ℕ → Bool) (value free : ℕ) (old new : Ways) : Type 0 where
  pub few : new.count ≤ old.count + 2 ^ count_ones free
  pub kept : Keeps old new
  pub all : HasPassing passes value free new

-- The assertion holds of a setting, and no constant contradicts it.
abbrev pub is_way : Pattern → (ℕ → Bool) → ℕ → Bool
is_way p asserted s = asserted s && (bit_and (bit_and (bit_xor s p.value) p.cover) p.named == 0)

-- Whatever number is the instruction's, its setting of the named bits is among the ways.
pub record HasWays (p : Pattern) (asserted : ℕ → Bool) (ways : Ways) : Type 0 where
  pub each : (w : ℕ) → Fits p asserted w → Has ways (bit_and w p.named)

-- An instruction whose named bits are set in one way, as one that has constants alone.
abbrev pub standing : Pattern → ℕ → Pattern
standing p s = record { decodable = p.decodable; cover = bit_or p.cover p.named; value = bit_or p.value (bit_and s p.named); named = 0 }

-- Nothing is asserted.
abbrev pub always : ℕ → Bool
always w = true
