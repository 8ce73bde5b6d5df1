-- What a pattern of a table must be.
use Rattle.std.specs.Prelude.{◌≡◌, ℕ, ◌*◌, ◌^◌, Bool, true, false, bit_and}
use Rattle.cg_ambig_pattern.specs.declared.pairs.Pattern.{Pattern}

-- The bits that assertions name, where there are any.
abbrev pub named : Bool → ℕ
named true = 255 * 2 ^ 112
named false = 0

-- A pattern covers its constants, and names these bits.
pub record IsFit (asked : Bool) (p : Pattern) : Type 0 where
  pub inside : bit_and p.value p.cover ≡ p.value
  pub names : p.named ≡ named asked
