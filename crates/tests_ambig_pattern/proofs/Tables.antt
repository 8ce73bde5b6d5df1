-- Tables are sound where each pattern was looked at.
use Rattle.std.proofs.Common.{◌≡◌, ℕ, ◌+◌, ◌-◌, ◌*◌, ◌/◌, ◌%◌, ◌^◌, ◌<◌, ◌≤◌, bit_and, count_ones, Bool, true, false, ◌==◌, if◌then◌else◌, List, length, get_or, Some, slice_get, sym, ap, ◌∙◌, refl, subst, inl, inr, arith}
use Rattle.std.proofs.lemmas.Bool.{cases_lt}
use Rattle.std.proofs.lemmas.Nat.{pow_pos, ones_cat, ones-le, ones_le_self, shl-shr}
use Rattle.std.proofs.lemmas.Nat.Bits.{and_high}
use Rattle.std.proofs.lemmas.Option.{get_or_from_slice_get, slice_get_within}
use Rattle.cg_ambig_pattern.specs.declared.pairs.Pattern.{Pattern}
use Rattle.cg_ambig_pattern.specs.First.{AreSound}
use Rattle.cg_ambig_pattern.specs.Together.{Depends}
use Rattle.tests_ambig_pattern.specs.Tables.{named, IsFit}

-- what is asserted of an instruction
abbrev pub asserted : Bool → ℕ → ℕ → Bool
asserted asked i w = if asked then (w / 2 ^ 112) % 256 == i % 256 else true

mask : 255 * 2 ^ 112 ≡ 2 ^ (8 + 112) - 2 ^ 112
mask = omega arith

-- the 8 bits are what the mask shows
same_eight : (a b : ℕ) → bit_and a (255 * 2 ^ 112) ≡ bit_and b (255 * 2 ^ 112) → (a / 2 ^ 112) % 256 ≡ (b / 2 ^ 112) % 256
same_eight a b same =
    let shown : (a / 2 ^ 112 % 2 ^ 8) * 2 ^ 112 ≡ (b / 2 ^ 112 % 2 ^ 8) * 2 ^ 112 = sym (and_high a 8 112) ∙ ap (bit_and a) (sym mask) ∙ same ∙ ap (bit_and b) mask ∙ and_high b 8 112 in
    sym (shl-shr (a / 2 ^ 112 % 2 ^ 8) 112) ∙ ap (λ x. x / 2 ^ 112) shown ∙ shl-shr (b / 2 ^ 112 % 2 ^ 8) 112

depends : (asked : Bool) (i : ℕ) → Depends (asserted asked i) (named asked)
depends true i = record { on = λ a b same. ap (λ x. x == i % 256) (same_eight a b same) }
depends false i = record { on = λ a b same. refl }

few : (asked : Bool) → count_ones (named asked) ≤ 8
few true = let apart : count_ones (255 * 2 ^ 112 + 0) ≡ count_ones 255 + count_ones 0 = ones_cat 112 255 0 (pow_pos 112) in omega (arith, apart, ones-le 8 255 (omega arith), ones_le_self 0)
few false = omega (arith, ones_le_self 0)

-- all patterns before a number were looked at
pub record SoFar (asked : Bool) (ps : List Pattern) (i : ℕ) : Type 0 where
  pub each : (k : ℕ) (p : Pattern) → k < i → slice_get ps k ≡ Some p → IsFit asked p

pub start : (asked : Bool) (ps : List Pattern) (i : ℕ) → i ≡ 0 → SoFar asked ps i
start asked ps i e = record { each = λ k p h _. absurd (omega (arith, e, h)) }

pub more : (asked : Bool) (ps : List Pattern) (i : ℕ) (d : Pattern) → SoFar asked ps i → IsFit asked (get_or ps i d) → SoFar asked ps (i + 1)
more asked ps i d so_far here = record {
  each = λ k p h e. elim (cases_lt k i) [
    | inl lt ↦ so_far.each k p lt e
    | inr ge ↦
        let at : k ≡ i = omega arith in
        let same : get_or ps i d ≡ p = get_or_from_slice_get ps i p d (subst (λ j. slice_get ps j ≡ Some p) at e) in
        subst (IsFit asked) same here
  ];
}

pub all : (asked : Bool) (ps : List Pattern) (i : ℕ) → length ps ≤ i → SoFar asked ps i → AreSound ps (asserted asked)
all asked ps i past so_far = record {
  covers = λ k p e. let x : IsFit asked p = so_far.each k p (omega (arith, slice_get_within ps k p e)) e in record { inside = x.inside };
  depends = λ k p e. let x : IsFit asked p = so_far.each k p (omega (arith, slice_get_within ps k p e)) e in subst (Depends (asserted asked k)) (sym x.names) (depends asked k);
  few = λ k p e. let x : IsFit asked p = so_far.each k p (omega (arith, slice_get_within ps k p e)) e in subst (λ n. count_ones n ≤ 8) (sym x.names) (few asked);
}

pub ruleset tables = (start, more, all)
