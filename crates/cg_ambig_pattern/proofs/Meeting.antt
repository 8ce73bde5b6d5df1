-- Two instructions that meet, meet in one of the first's ways.
use Rattle.std.proofs.Common.{◌≡◌, ℕ, ◌+◌, ◌<◌, ◌≤◌, min, bit_and, Bool, slice_index, sym, ap, ◌∙◌, refl, subst, inl, inr, arith}
use Rattle.std.specs.Int.{bit_at}
use Rattle.std.proofs.lemmas.Nat.Bits.{bit_at_and, bit_at_or, same_from_bits}
use Rattle.std.proofs.lemmas.Bool.{cases_lt}
use Rattle.cg_ambig_pattern.specs.declared.pairs.Pattern.{Pattern}
use Rattle.cg_ambig_pattern.specs.declared.ways.Ways.{Ways}
use Rattle.cg_ambig_pattern.specs.Together.{Fits, Depends, Covers, Both, Never}
use Rattle.cg_ambig_pattern.specs.Ways.{Has, HasWays, standing, always}
use Rattle.cg_ambig_pattern.proofs.Together.{merged, contradicted}

and_bit : (w c v i : ℕ) → bit_and w c ≡ v → min (bit_at w i) (bit_at c i) ≡ bit_at v i
and_bit w c v i e = sym (bit_at_and w c i) ∙ ap (λ x. bit_at x i) e

-- an instruction in one way covers its constants
pub standing_covers : (p : Pattern) (s : ℕ) → Covers p → Covers (standing p s)
standing_covers p s h = record {
  inside = same_from_bits _ _ (λ i. simp (bit_at_and, bit_at_or) (omega (arith, and_bit p.value p.cover p.value i h.inside)));
}

pub always_depends : (named : ℕ) → Depends always named
always_depends named = record { on = λ a b same. refl }

own_setting : (w n : ℕ) → bit_and w n ≡ bit_and (bit_and w n) n
own_setting w n = same_from_bits _ _ (λ i. simp bit_at_and (omega arith))

-- what fits an instruction fits it in its own way
fits_standing : (p : Pattern) (a : ℕ → Bool) (w s : ℕ) → s ≡ bit_and w p.named → Fits p a w → Fits (standing p s) always w
fits_standing p a w s e fits = record {
  decodable = fits.decodable;
  stands = merged w p.cover p.named p.value (bit_and s p.named) fits.stands (own_setting w p.named ∙ ap (λ x. bit_and x p.named) (sym e));
  meets = refl;
}

-- the second meets the first in none of the first ways
pub record NoneOf (p q : Pattern) (ways : Ways) (b : ℕ → Bool) (k : ℕ) : Type 0 where
  pub none : (l : ℕ) → l < k → Never (Both (standing p (slice_index ways.numbers l)) q always b)

pub none_of_no_way : (p q : Pattern) (ways : Ways) (b : ℕ → Bool) (k : ℕ) → k ≡ 0 → NoneOf p q ways b k
none_of_no_way p q ways b k e = record { none = λ l below. omega (arith, e, below) }

-- nor in the next
pub none_of_more : (p q x : Pattern) (ways : Ways) (b : ℕ → Bool) (k : ℕ) → NoneOf p q ways b k → x ≡ standing p (slice_index ways.numbers k) → Never (Both x q always b) → NoneOf p q ways b (k + 1)
none_of_more p q x ways b k before same never = record {
  none = λ l below. elim (cases_lt l k) [
    | inl lt ↦ before.none l lt
    | inr ge ↦ let e : k ≡ l = omega arith in subst (λ n. Never (Both (standing p (slice_index ways.numbers n)) q always b)) e (subst (λ y. Never (Both y q always b)) same never)
  ];
}

-- so they don't meet
pub none_of_all : (p q : Pattern) (ways : Ways) (a b : ℕ → Bool) (k : ℕ) → ways.count ≤ k → HasWays p a ways → NoneOf p q ways b k → Never (Both p q a b)
none_of_all p q ways a b k all has none = record {
  never = λ w both.
      let h : Has ways (bit_and w p.named) = has.each w both.first in
      (none.none h.place (omega (arith, h.before))).never w (record { first = fits_standing p a w (slice_index ways.numbers h.place) h.at both.first; second = both.second });
}

pub ruleset meeting = (standing_covers, always_depends, none_of_no_way, none_of_more, none_of_all)

pub ruleset among = (contradicted)
