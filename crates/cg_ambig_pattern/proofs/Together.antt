-- The least number of two instructions is the least setting of the bits that their assertions name.
use Rattle.std.proofs.Common.{◌≡◌, ℕ, ◌+◌, ◌%◌, ◌^◌, ◌<◌, ◌≤◌, min, max, bit_and, bit_or, bit_xor, Bool, true, false, sym, ap, ◌∙◌, refl, subst, arith}
use Rattle.std.proofs.Common.{◌&&◌, ◌==◌, not, Option, Some, None, MatchOption, ◌≢◌}
use Rattle.std.specs.Int.{bit_at}
use Rattle.std.proofs.lemmas.Bool.{false≢true}
use Rattle.cg_ambig_pattern.specs.declared.pairs.Pattern.{Pattern}
use Rattle.cg_ambig_pattern.specs.Settings.{IsPart, NoSetting, IsLeastSetting}
use Rattle.cg_ambig_pattern.specs.Together.{Depends, Both, Covers, Never, IsLeast, contradictions, constants, open_bits, both_meet}
use Rattle.std.proofs.lemmas.Nat.{and_le_l, or_lt, xor_lt, or_disjoint}
use Rattle.std.proofs.lemmas.Nat.Bits.{bit_at_and, bit_at_or, bit_at_xor, bit_at-lt, bit_at-zero, same_from_bits}

-- what an `&` says of one bit
and_bit : (w c v i : ℕ) → bit_and w c ≡ v → min (bit_at w i) (bit_at c i) ≡ bit_at v i
and_bit w c v i e = sym (bit_at_and w c i) ∙ ap (λ x. bit_at x i) e

-- the constants of both stand together
pub merged : (w c d v u : ℕ) → bit_and w c ≡ v → bit_and w d ≡ u → bit_and w (bit_or c d) ≡ bit_or v u
merged w c d v u e f = same_from_bits _ _ (λ i.
    simp (bit_at_and, bit_at_or) (omega (arith, and_bit w c v i e, and_bit w d u i f)))

-- constants that stand together don't contradict each other
pub agreeing : (w c d v u : ℕ) → bit_and w c ≡ v → bit_and w d ≡ u → bit_and (bit_and (bit_xor v u) c) d ≡ 0
agreeing w c d v u e f = same_from_bits _ _ (λ i.
    simp (bit_at_and, bit_at_xor, bit_at-zero) (omega (arith, and_bit w c v i e, and_bit w d u i f, bit_at-lt v i, bit_at-lt u i)))

abbrev free : ℕ → ℕ → ℕ → ℕ → ℕ
free c d n m = bit_xor (bit_or (bit_or n m) (bit_or c d)) (bit_or c d)

-- one bit of the free bits
free_bit : (c d n m i : ℕ) → bit_at (free c d n m) i ≡ (max (max (bit_at n i) (bit_at m i)) (max (bit_at c i) (bit_at d i)) + max (bit_at c i) (bit_at d i)) % 2
free_bit c d n m i = simp (bit_at_xor, bit_at_or) refl

-- a setting of the free bits meets no constant
apart : (c v d u n m s : ℕ) → bit_and v c ≡ v → bit_and u d ≡ u → bit_and s (free c d n m) ≡ s → bit_and (bit_or v u) s ≡ 0
apart c v d u n m s e f g = same_from_bits _ _ (λ i.
    simp (bit_at_and, bit_at_or, bit_at-zero)
    (omega (arith, and_bit v c v i e, and_bit u d u i f, and_bit s (free c d n m) s i g, free_bit c d n m i, bit_at-lt v i, bit_at-lt u i, bit_at-lt s i, bit_at-lt c i, bit_at-lt d i, bit_at-lt n i, bit_at-lt m i)))

-- the first's constants stand in the constants of both and such a setting
first_stands : (c v d u n m s : ℕ) → bit_and v c ≡ v → bit_and u d ≡ u → bit_and (bit_and (bit_xor v u) c) d ≡ 0 → bit_and s (free c d n m) ≡ s → bit_and (bit_or (bit_or v u) s) c ≡ v
first_stands c v d u n m s e f h g = same_from_bits _ _ (λ i.
    let none : min (min ((bit_at v i + bit_at u i) % 2) (bit_at c i)) (bit_at d i) ≡ 0 = simp (bit_at_and, bit_at_xor, bit_at-zero) at (ap (λ x. bit_at x i) h) in
    simp (bit_at_and, bit_at_or)
    (omega (arith, none, and_bit v c v i e, and_bit u d u i f, and_bit s (free c d n m) s i g, free_bit c d n m i, bit_at-lt v i, bit_at-lt u i, bit_at-lt s i, bit_at-lt c i, bit_at-lt d i, bit_at-lt n i, bit_at-lt m i)))

second_stands : (c v d u n m s : ℕ) → bit_and v c ≡ v → bit_and u d ≡ u → bit_and (bit_and (bit_xor v u) c) d ≡ 0 → bit_and s (free c d n m) ≡ s → bit_and (bit_or (bit_or v u) s) d ≡ u
second_stands c v d u n m s e f h g = same_from_bits _ _ (λ i.
    let none : min (min ((bit_at v i + bit_at u i) % 2) (bit_at c i)) (bit_at d i) ≡ 0 = simp (bit_at_and, bit_at_xor, bit_at-zero) at (ap (λ x. bit_at x i) h) in
    simp (bit_at_and, bit_at_or)
    (omega (arith, none, and_bit v c v i e, and_bit u d u i f, and_bit s (free c d n m) s i g, free_bit c d n m i, bit_at-lt v i, bit_at-lt u i, bit_at-lt s i, bit_at-lt c i, bit_at-lt d i, bit_at-lt n i, bit_at-lt m i)))

-- the bits of a number that are free
setting : (w f : ℕ) → bit_and (bit_and w f) f ≡ bit_and w f
setting w f = same_from_bits _ _ (λ i. simp bit_at_and (omega arith))

-- the constants and such bits of a number that both match are the number where a constant or an assertion names a bit, and 0 elsewhere
cut : (c v d u n m w : ℕ) → bit_and w c ≡ v → bit_and w d ≡ u → bit_or (bit_or v u) (bit_and w (free c d n m)) ≡ bit_and w (bit_or (bit_or n m) (bit_or c d))
cut c v d u n m w e f = same_from_bits _ _ (λ i.
    simp (bit_at_and, bit_at_or)
    (omega (arith, and_bit w c v i e, and_bit w d u i f, free_bit c d n m i, bit_at-lt w i, bit_at-lt c i, bit_at-lt d i, bit_at-lt n i, bit_at-lt m i)))

-- what a cut keeps
keeps : (w all n : ℕ) → bit_and n all ≡ n → bit_and (bit_and w all) n ≡ bit_and w n
keeps w all n e = same_from_bits _ _ (λ i. simp bit_at_and (omega (arith, and_bit n all n i e)))

in_first : (c d n m : ℕ) → bit_and n (bit_or (bit_or n m) (bit_or c d)) ≡ n
in_first c d n m = same_from_bits _ _ (λ i. simp (bit_at_and, bit_at_or) (omega arith))

in_second : (c d n m : ℕ) → bit_and m (bit_or (bit_or n m) (bit_or c d)) ≡ m
in_second c d n m = same_from_bits _ _ (λ i. simp (bit_at_and, bit_at_or) (omega arith))

-- both tests pass
both_true : (a b : Bool) → a ≡ true → b ≡ true → (a && b) ≡ true
both_true a b e f = rw (e, f) refl

first_true : (a b : Bool) → (a && b) ≡ true → a ≡ true
first_true true b e = refl
first_true false b e = e

second_true : (a b : Bool) → (a && b) ≡ true → b ≡ true
second_true true b e = e
second_true false b e = absurd (false≢true e)

-- a number that both match, cut to what is named
pub record Cut (p q : Pattern) (a b : ℕ → Bool) (w : ℕ) : Type 0 where
  pub set : ℕ
  pub part : IsPart set (open_bits p q)
  pub passing : both_meet a b (constants p q + set) ≡ true
  pub shown : constants p q + set ≡ bit_and w (bit_or (bit_or p.named q.named) (bit_or p.cover q.cover))
  pub below : constants p q + set ≤ w

pub cut_of : (p q : Pattern) (a b : ℕ → Bool) (w : ℕ) → Covers p → Covers q → Depends a p.named → Depends b q.named → Both p q a b w → Cut p q a b w
cut_of p q a b w cp cq da db both =
    let f : ℕ = open_bits p q in
    let s : ℕ = bit_and w f in
    let all : ℕ = bit_or (bit_or p.named q.named) (bit_or p.cover q.cover) in
    let sum : bit_or (constants p q) s ≡ constants p q + s = or_disjoint (constants p q) s (apart p.cover p.value q.cover q.value p.named q.named s cp.inside cq.inside (setting w f)) in
    let same : constants p q + s ≡ bit_and w all = sym sum ∙ cut p.cover p.value q.cover q.value p.named q.named w both.first.stands both.second.stands in
    let on_first : a (constants p q + s) ≡ true = ap a same ∙ da.on (bit_and w all) w (keeps w all p.named (in_first p.cover q.cover p.named q.named)) ∙ both.first.meets in
    let on_second : b (constants p q + s) ≡ true = ap b same ∙ db.on (bit_and w all) w (keeps w all q.named (in_second p.cover q.cover p.named q.named)) ∙ both.second.meets in
    record {
      set = s;
      part = record { part = setting w f };
      passing = both_true (a (constants p q + s)) (b (constants p q + s)) on_first on_second;
      shown = same;
      below = subst (λ x. x ≤ w) (sym same) (and_le_l w all);
    }

-- a setting that passes is a number that both match
pub both_of : (p q : Pattern) (a b : ℕ → Bool) (s : ℕ) → p.decodable ≡ true → q.decodable ≡ true → Covers p → Covers q → contradictions p q ≡ 0 → IsPart s (open_bits p q) → both_meet a b (constants p q + s) ≡ true → Both p q a b (constants p q + s)
both_of p q a b s dp dq cp cq none part passing =
    let sum : bit_or (constants p q) s ≡ constants p q + s = or_disjoint (constants p q) s (apart p.cover p.value q.cover q.value p.named q.named s cp.inside cq.inside part.part) in
    let w : ℕ = constants p q + s in
    record {
      first = record {
        decodable = dp;
        stands = ap (λ x. bit_and x p.cover) (sym sum) ∙ first_stands p.cover p.value q.cover q.value p.named q.named s cp.inside cq.inside none part.part;
        meets = first_true (a w) (b w) passing;
      };
      second = record {
        decodable = dq;
        stands = ap (λ x. bit_and x q.cover) (sym sum) ∙ second_stands p.cover p.value q.cover q.value p.named q.named s cp.inside cq.inside none part.part;
        meets = second_true (a w) (b w) passing;
      };
    }

-- two instructions whose constants contradict each other match nothing together
pub contradict : (p q : Pattern) (a b : ℕ → Bool) → contradictions p q ≢ 0 → Never (Both p q a b)
contradict p q a b some = record { never = λ w both. some (agreeing w p.cover q.cover p.value q.value both.first.stands both.second.stands) }

-- where no setting passes, both match nothing
pub no_setting : (p q : Pattern) (a b : ℕ → Bool) → Covers p → Covers q → Depends a p.named → Depends b q.named → NoSetting (both_meet a b) (constants p q) (open_bits p q) → Never (Both p q a b)
no_setting p q a b cp cq da db none = record {
  never = λ w both.
      let x : Cut p q a b w = cut_of p q a b w cp cq da db both in
      false≢true (sym (none x.set x.part) ∙ x.passing);
}

-- the least setting that passes is the least number that both match
pub least_setting : (p q : Pattern) (a b : ℕ → Bool) (w : ℕ) → p.decodable ≡ true → q.decodable ≡ true → Covers p → Covers q → Depends a p.named → Depends b q.named → contradictions p q ≡ 0 → IsLeastSetting (both_meet a b) (constants p q) (open_bits p q) w → IsLeast (Both p q a b) w
least_setting p q a b w dp dq cp cq da db none found =
    record {
      holds = subst (Both p q a b) (sym found.sum) (both_of p q a b found.set dp dq cp cq none found.part (ap (both_meet a b) (sym found.sum) ∙ found.passing));
      least = λ x both.
          let y : Cut p q a b x = cut_of p q a b x cp cq da db both in
          let below : w ≤ constants p q + y.set = found.least y.set y.part y.passing in
          omega (arith, below, y.below);
    }

-- the constants and all open bits fit where each pattern fits
pub room : (p q : Pattern) → Covers p → Covers q → p.value < 2 ^ 128 → q.value < 2 ^ 128 → p.cover < 2 ^ 128 → q.cover < 2 ^ 128 → p.named < 2 ^ 128 → q.named < 2 ^ 128 → constants p q + open_bits p q < 2 ^ 128
room p q cp cq a b c d n m =
    let f : ℕ = open_bits p q in
    let cover : bit_or p.cover q.cover < 2 ^ 128 = or_lt 128 p.cover q.cover c d in
    let small : f < 2 ^ 128 = xor_lt 128 _ _ (or_lt 128 _ _ (or_lt 128 p.named q.named n m) cover) cover in
    let self : bit_and f f ≡ f = same_from_bits _ _ (λ i. simp bit_at_and (omega arith)) in
    let sum : bit_or (constants p q) f ≡ constants p q + f = or_disjoint (constants p q) f (apart p.cover p.value q.cover q.value p.named q.named f cp.inside cq.inside self) in
    subst (λ x. x < 2 ^ 128) sum (or_lt 128 (constants p q) f (or_lt 128 p.value q.value a b) small)

-- what the search answers is what is asked of the pair
pub searched : (p q : Pattern) (a b : ℕ → Bool) (r : Option ℕ) → p.decodable ≡ true → q.decodable ≡ true → Covers p → Covers q → Depends a p.named → Depends b q.named → contradictions p q ≡ 0
    → MatchOption r (NoSetting (both_meet a b) (constants p q) (open_bits p q)) (λ w. IsLeastSetting (both_meet a b) (constants p q) (open_bits p q) w)
    → MatchOption r (Never (Both p q a b)) (λ w. IsLeast (Both p q a b) w)
searched p q a b None dp dq cp cq da db none found = no_setting p q a b cp cq da db found
searched p q a b (Some w) dp dq cp cq da db none found = least_setting p q a b w dp dq cp cq da db none found

-- bytes are never decoded to an instruction that isn't decodable
pub first_out : (p q : Pattern) (a b : ℕ → Bool) → p.decodable ≡ false → Never (Both p q a b)
first_out p q a b out = record { never = λ w both. false≢true (sym out ∙ both.first.decodable) }

pub second_out : (p q : Pattern) (a b : ℕ → Bool) → q.decodable ≡ false → Never (Both p q a b)
second_out p q a b out = record { never = λ w both. false≢true (sym out ∙ both.second.decodable) }

-- what code tells of constants
pub contradicted : (p q : Pattern) (a b : ℕ → Bool) (r : Bool) → r ≡ not (contradictions p q == 0) → r ≡ true → Never (Both p q a b)
contradicted p q a b r is told = contradict p q a b (λ none. false≢true (sym (ap (λ n. not (n == 0)) none) ∙ sym is ∙ told))

pub ruleset pairs = (first_out, second_out, contradicted, searched, room)
