-- Two instructions that match the same number.
use Rattle.std.specs.Prelude.{◌≡◌, ℕ, ◌≤◌, Bool, true, ◌&&◌, bit_and, bit_or, bit_xor}
use Rattle.cg_ambig_pattern.specs.declared.pairs.Pattern.{Pattern}

-- A number is one of an instruction's: its constants stand there, and it meets the assertion.
pub record Fits (p : Pattern) (asserted : ℕ → Bool) (w : ℕ) : Type 0 where
  pub decodable : p.decodable ≡ true
  pub stands : bit_and w p.cover ≡ p.value
  pub meets : asserted w ≡ true

-- An assertion asks for nothing but the bits that it names.
pub record Depends (asserted : ℕ → Bool) (named : ℕ) : Type 0 where
  pub on : (a b : ℕ) → bit_and a named ≡ bit_and b named → asserted a ≡ asserted b

-- The constants of a pattern are bits that it covers.
pub record Covers (p : Pattern) : Type 0 where
  pub inside : bit_and p.value p.cover ≡ p.value

-- A number is one of both.
pub record Both (p q : Pattern) (a b : ℕ → Bool) (w : ℕ) : Type 0 where
  pub first : Fits p a w
  pub second : Fits q b w

-- P holds of no number.
pub record Never (P : ℕ → Type 0) : Type 0 where
  pub never : (w : ℕ) → P w → ⊥

-- w is the least number of which P holds.
pub record IsLeast (P : ℕ → Type 0) (w : ℕ) : Type 0 where
  pub holds : P w
  pub least : (x : ℕ) → P x → w ≤ x

-- The places where the constants of both stand and differ.
abbrev pub contradictions : Pattern → Pattern → ℕ
contradictions p q = bit_and (bit_and (bit_xor p.value q.value) p.cover) q.cover

-- The constants of both in place, and 0 elsewhere.
abbrev pub constants : Pattern → Pattern → ℕ
constants p q = bit_or p.value q.value

-- The bits that an assertion names and no constant covers.
abbrev pub open_bits : Pattern → Pattern → ℕ
open_bits p q = let cover = bit_or p.cover q.cover in bit_xor (bit_or (bit_or p.named q.named) cover) cover

abbrev pub both_meet : (ℕ → Bool) → (ℕ → Bool) → ℕ → Bool
both_meet a b w = a w && b w
