-- A setting of bits has the highest of them or it doesn't.
use Rattle.std.proofs.Common.{◌≡◌, ℕ, ◌+◌, ◌-◌, ◌*◌, ◌/◌, ◌%◌, ◌^◌, ◌<◌, ◌≤◌, bit_and, Bool, true, false, Option, Some, None, MatchOption, inl, inr, sym, ap, ◌∙◌, refl, subst, arith}
use Rattle.std.proofs.lemmas.Nat.{and_le_r, and_block, and_mask, and_le_l, same_from_place, pow_pos, div-add-mod', mod_below, leading_top, one_shl}
use lib.Count.{count_leading_zeros}
use Rattle.std.proofs.Math.Nat.{pow-suc}
use Rattle.std.proofs.lemmas.Bool.{false≢true, cases_lt}
use Rattle.cg_ambig_pattern.specs.Settings.{IsPart, IsHighest, NoSetting, IsLeastSetting}

-- a setting of bits, of which the highest is at place t, is that bit or none and a setting of the rest
pub record Halves (t s rest : ℕ) : Type 0 where
  pub high : ℕ
  pub low : ℕ
  pub sum : s ≡ high * 2 ^ t + low
  pub one : high % 2 ≡ high
  pub part : bit_and low rest ≡ low

pub halves : (t rest s : ℕ) → rest < 2 ^ t → bit_and s (2 ^ t + rest) ≡ s → Halves t s rest
halves t rest s h p =
    let high : ℕ = s / 2 ^ t in
    let low : ℕ = s % 2 ^ t in
    let sum : high * 2 ^ t + low ≡ s = div-add-mod' s (2 ^ t) in
    let below : low < 2 ^ t = mod_below s (2 ^ t) (pow_pos t) in
    let top : 2 ^ t + rest ≡ 1 * 2 ^ t + rest = omega arith in
    let block : bit_and (high * 2 ^ t + low) (1 * 2 ^ t + rest) ≡ bit_and high 1 * 2 ^ t + bit_and low rest = and_block t high 1 low rest below h in
    let same : bit_and high 1 * 2 ^ t + bit_and low rest ≡ high * 2 ^ t + low =
    sym block ∙ ap (λ x. bit_and x (1 * 2 ^ t + rest)) sum ∙ ap (bit_and s) (sym top) ∙ p ∙ sym sum in
    let parts : (bit_and high 1 ≡ high) × (bit_and low rest ≡ low) =
    same_from_place (bit_and high 1) (bit_and low rest) high low (2 ^ t) (omega (arith, and_le_l low rest)) below same in
    record { high = high; low = low; sum = sym sum; one = sym (and_mask high 1) ∙ parts.0; part = parts.1 }

-- a setting of the rest, without the highest bit or with it, is a setting of all
pub without : (t rest s : ℕ) → rest < 2 ^ t → IsPart s rest → IsPart s (2 ^ t + rest)
without t rest s h p =
    let small : s ≤ rest = subst (λ x. x ≤ rest) p.part (and_le_r s rest) in
    let block : bit_and (0 * 2 ^ t + s) (1 * 2 ^ t + rest) ≡ bit_and 0 1 * 2 ^ t + bit_and s rest = and_block t 0 1 s rest (omega arith) h in
    let left : 0 * 2 ^ t + s ≡ s = omega arith in
    let right : 1 * 2 ^ t + rest ≡ 2 ^ t + rest = omega arith in
    let end : bit_and 0 1 * 2 ^ t + bit_and s rest ≡ s = omega (arith, p.part) in
    record { part = ap (λ x. bit_and x (2 ^ t + rest)) (sym left) ∙ ap (bit_and (0 * 2 ^ t + s)) (sym right) ∙ block ∙ end }

pub with_top : (t rest s : ℕ) → rest < 2 ^ t → IsPart s rest → IsPart (2 ^ t + s) (2 ^ t + rest)
with_top t rest s h p =
    let small : s ≤ rest = subst (λ x. x ≤ rest) p.part (and_le_r s rest) in
    let block : bit_and (1 * 2 ^ t + s) (1 * 2 ^ t + rest) ≡ bit_and 1 1 * 2 ^ t + bit_and s rest = and_block t 1 1 s rest (omega arith) h in
    let left : 1 * 2 ^ t + s ≡ 2 ^ t + s = omega arith in
    let right : 1 * 2 ^ t + rest ≡ 2 ^ t + rest = omega arith in
    let end : bit_and 1 1 * 2 ^ t + bit_and s rest ≡ 2 ^ t + s = omega (arith, p.part) in
    record { part = ap (λ x. bit_and x (2 ^ t + rest)) (sym left) ∙ ap (bit_and (1 * 2 ^ t + s)) (sym right) ∙ block ∙ end }

-- 1 shifted as far as a number has bits
pub highest : (bits : ℕ) → 0 < bits → bits < 2 ^ 128 → IsHighest ((1 * 2 ^ (127 - count_leading_zeros 128 bits)) % 2 ^ 128) bits
highest bits some fits =
    let (j, e, low, high) = leading_top 128 bits some fits in
    let at : 127 - count_leading_zeros 128 bits ≡ j = omega arith in
    let shifted : (1 * 2 ^ (127 - count_leading_zeros 128 bits)) % 2 ^ 128 ≡ 2 ^ j = ap (λ k. (1 * 2 ^ k) % 2 ^ 128) at ∙ one_shl j 128 (omega arith) in
    record { place = j; power = shifted; within = omega arith; above = omega (arith, pow-suc 2 j) }

-- the highest bit at its place, and the bits below it
pub record Topped (top free : ℕ) : Type 0 where
  pub place : ℕ
  pub power : 2 ^ place ≡ top
  pub small : free - top < 2 ^ place
  pub whole : free ≡ 2 ^ place + (free - top)

pub topped : (top free : ℕ) → IsHighest top free → Topped top free
topped top free h = record { place = h.place; power = sym h.power; small = omega arith; whole = omega arith }

-- a setting without the highest bit, or with it
pub data Cases (top free s : ℕ) : Type 0 where
  lower : IsPart s (free - top) → Cases top free s
  upper : (low : ℕ) → s ≡ top + low → IsPart low (free - top) → Cases top free s

pub cases : (top free s : ℕ) → IsHighest top free → IsPart s free → Cases top free s
cases top free s h p =
    let x : Topped top free = topped top free h in
    let y : Halves x.place s (free - top) = halves x.place (free - top) s x.small (ap (bit_and s) (sym x.whole) ∙ p.part) in
    elim (cases_lt y.high 1) [
      | inl zero_high ↦
          let e : y.high ≡ 0 = omega arith in
          let same : y.low ≡ s = omega (arith, sym y.sum, ap (λ k. k * 2 ^ x.place) e) in
          lower (subst (λ k. IsPart k (free - top)) same (record { part = y.part }))
      | inr one_high ↦
          let e : y.high ≡ 1 = omega (arith, y.one) in
          let same : s ≡ top + y.low = omega (arith, y.sum, x.power, ap (λ k. k * 2 ^ x.place) e) in
          upper y.low same (record { part = y.part })
    ]

lower_part : (top free s : ℕ) → IsHighest top free → IsPart s (free - top) → IsPart s free
lower_part top free s h p =
    let x : Topped top free = topped top free h in
    subst (IsPart s) (sym x.whole) (without x.place (free - top) s x.small p)

upper_part : (top free s : ℕ) → IsHighest top free → IsPart s (free - top) → IsPart (top + s) free
upper_part top free s h p =
    let x : Topped top free = topped top free h in
    let e : 2 ^ x.place + s ≡ top + s = omega (arith, x.power) in
    subst (λ k. IsPart k free) e (subst (IsPart (2 ^ x.place + s)) (sym x.whole) (with_top x.place (free - top) s x.small p))

-- no setting of the rest passes, with the highest bit or without it
pub none_of_both : (passes : ℕ → Bool) (value free top : ℕ) → IsHighest top free → NoSetting passes value (free - top) → NoSetting passes (value + top) (free - top) → NoSetting passes value free
none_of_both passes value free top h first second s part =
    elim (cases top free s h part) [
      | lower p ↦ first s p
      | upper low e p ↦ let same : value + s ≡ value + top + low = omega (arith, e) in ap passes same ∙ second low p
    ]

-- the least without the highest bit is the least of all
pub least_below : (passes : ℕ → Bool) (value free top w : ℕ) → IsHighest top free → IsLeastSetting passes value (free - top) w → IsLeastSetting passes value free w
least_below passes value free top w h found =
    let x : Topped top free = topped top free h in
    record {
      set = found.set;
      part = lower_part top free found.set h found.part;
      sum = found.sum;
      passing = found.passing;
      least = λ s part passing. elim (cases top free s h part) [
        | lower p ↦ found.least s p passing
        | upper low e p ↦
            let small : found.set ≤ free - top = subst (λ k. k ≤ free - top) found.part.part (and_le_r found.set (free - top)) in
            omega (arith, e, small, found.sum, x.power, x.small)
      ];
    }

-- where none passes without it, the least with it is
pub least_above : (passes : ℕ → Bool) (value free top w : ℕ) → IsHighest top free → NoSetting passes value (free - top) → IsLeastSetting passes (value + top) (free - top) w → IsLeastSetting passes value free w
least_above passes value free top w h none found =
    record {
      set = top + found.set;
      part = upper_part top free found.set h found.part;
      sum = omega (arith, found.sum);
      passing = found.passing;
      least = λ s part passing. elim (cases top free s h part) [
        | lower p ↦ absurd (false≢true (sym (none s p) ∙ passing))
        | upper low e p ↦
            let same : value + s ≡ value + top + low = omega (arith, e) in
            let least : w ≤ value + top + low = found.least low p (ap passes (sym same) ∙ passing) in
            omega arith
      ];
    }

-- what the second half gives is the answer, where the first has none
pub second_half : (passes : ℕ → Bool) (value free top : ℕ) (r : Option ℕ) → IsHighest top free → NoSetting passes value (free - top)
    → MatchOption r (NoSetting passes (value + top) (free - top)) (λ w. IsLeastSetting passes (value + top) (free - top) w)
    → MatchOption r (NoSetting passes value free) (λ w. IsLeastSetting passes value free w)
second_half passes value free top None h first second = none_of_both passes value free top h first second
second_half passes value free top (Some w) h first second = least_above passes value free top w h first second

-- with no free bit there is one setting
pub only_one : (s : ℕ) → IsPart s 0 → s ≡ 0
only_one s p = omega (arith, p.part, and_le_r s 0)

pub only_passes : (passes : ℕ → Bool) (value : ℕ) → passes value ≡ true → IsLeastSetting passes value 0 value
only_passes passes value passing =
    record { set = 0; part = record { part = refl }; sum = omega arith; passing = passing; least = λ s p _. omega arith }

pub only_fails : (passes : ℕ → Bool) (value : ℕ) → passes value ≡ false → NoSetting passes value 0
only_fails passes value fails s p = ap passes (let e : value + s ≡ value = omega (arith, only_one s p) in e) ∙ fails

pub ruleset by_halves = (none_of_both, least_below, second_half, only_passes, only_fails)
