-- The settings that pass are gathered by halves.
use Rattle.std.proofs.Common.{◌≡◌, ℕ, suc, ◌+◌, ◌-◌, ◌*◌, ◌^◌, ◌<◌, ◌≤◌, min, bit_and, bit_xor, Bool, true, false, ◌==◌, ◌&&◌, length, slice_index, slice_set, count_ones, sym, ap, ◌∙◌, refl, subst, arith}
use Rattle.std.specs.Int.{bit_at}
use lib.Count.{ones}
use Rattle.std.proofs.lemmas.Nat.{ones_cat, pow_pos}
use Rattle.std.proofs.lemmas.Nat.Bits.{bit_at_and, bit_at_xor, bit_at-lt, bit_at-zero, same_from_bits}
use Rattle.std.proofs.lemmas.Bool.{false≢true, eq-eqb}
use Rattle.std.proofs.lemmas.List.{get_or-set_same, get_or-set_other}
use Rattle.std.proofs.Math.Nat.{pow-suc, pow-le-pow_right}
use Rattle.cg_ambig_pattern.specs.declared.pairs.Pattern.{Pattern}
use Rattle.cg_ambig_pattern.specs.declared.ways.Ways.{Ways}
use Rattle.cg_ambig_pattern.specs.Settings.{IsPart, IsHighest}
use Rattle.cg_ambig_pattern.specs.Together.{Depends}
use Rattle.cg_ambig_pattern.specs.Ways.{Has, Keeps, Gathered, HasWays, is_way}
use Rattle.cg_ambig_pattern.proofs.Settings.{Topped, topped, cases, lower, upper, only_one}

-- a number that is put behind the others is among them, and they still are
pub pushed : (old new : Ways) (x : ℕ) → old.count < length old.numbers → new.count ≡ old.count + 1 → new.numbers ≡ slice_set old.numbers old.count x → Has new x
pushed old new x room more set = record {
  place = old.count;
  before = omega (arith, more);
  at = ap (λ xs. slice_index xs old.count) set ∙ get_or-set_same old.numbers old.count x 0 room;
}

pub still_there : (old new : Ways) (x : ℕ) → new.count ≡ old.count + 1 → new.numbers ≡ slice_set old.numbers old.count x → Keeps old new
still_there old new x more set = record {
  has = λ y h. record {
    place = h.place;
    before = omega (arith, more, h.before);
    at = ap (λ xs. slice_index xs h.place) set ∙ get_or-set_other old.numbers old.count h.place x 0 (λ e. omega (arith, e, h.before)) ∙ h.at;
  };
}

pub ruleset pushing = (pushed, still_there)

-- without its highest bit a number has one bit less
one_less : (top free : ℕ) → IsHighest top free → count_ones free ≡ 1 + count_ones (free - top)
unfolding ones
one_less top free h =
    let x : Topped top free = topped top free h in
    let e : 2 ^ x.place + (free - top) ≡ 1 * 2 ^ x.place + (free - top) = omega arith in
    let one : count_ones 1 ≡ 1 = refl in
    ap count_ones (x.whole ∙ e) ∙ ones_cat x.place 1 (free - top) x.small ∙ ap (λ n. n + count_ones (free - top)) one

-- so there are twice as many settings
twice : (top free : ℕ) → IsHighest top free → 2 ^ count_ones free ≡ 2 * 2 ^ count_ones (free - top)
twice top free h =
    let n : ℕ = count_ones (free - top) in
    let next : 1 + n ≡ suc n = omega arith in
    let turned : 2 ^ n * 2 ≡ 2 * 2 ^ n = omega arith in
    ap (λ k. 2 ^ k) (one_less top free h ∙ next) ∙ pow-suc 2 n ∙ turned

pub room_first : (n top free : ℕ) → IsHighest top free → n + 2 ^ count_ones free ≤ 256 → n + 2 ^ count_ones (free - top) ≤ 256
room_first n top free h room = omega (arith, twice top free h)

pub room_second : (passes : ℕ → Bool) (value top free : ℕ) (a b : Ways) → IsHighest top free → a.count + 2 ^ count_ones free ≤ 256 → Gathered passes value (free - top) a b → b.count + 2 ^ count_ones (free - top) ≤ 256
room_second passes value top free a b h room first = omega (arith, twice top free h, first.few)

kept_on : (a b c : Ways) → Keeps a b → Keeps b c → Keeps a c
kept_on a b c k l = record { has = λ x h. l.has x (k.has x h) }

-- both halves are gathered
pub both_halves : (passes : ℕ → Bool) (value top free : ℕ) (a b c : Ways) → IsHighest top free → Gathered passes value (free - top) a b → Gathered passes (value + top) (free - top) b c → Gathered passes value free a c
both_halves passes value top free a b c h first second = record {
  few = omega (arith, twice top free h, first.few, second.few);
  kept = kept_on a b c first.kept second.kept;
  all = record {
    each = λ s part passing. elim (cases top free s h part) [
      | lower p ↦ second.kept.has (value + s) (first.all.each s p passing)
      | upper low e p ↦
          let same : value + top + low ≡ value + s = omega (arith, e) in
          subst (Has c) same (second.all.each low p (ap passes same ∙ passing))
    ];
  };
}

-- with no free bit there is one setting
pub one_passes : (passes : ℕ → Bool) (value free : ℕ) (a b : Ways) → free ≡ 0 → b.count ≡ a.count + 1 → Keeps a b → Has b value → Gathered passes value free a b
one_passes passes value free a b none more kept has = record {
  few = omega (arith, more, pow_pos (count_ones free));
  kept = kept;
  all = record { each = λ s part passing. let e : value ≡ value + s = omega (arith, only_one s (subst (IsPart s) none part)) in subst (Has b) e has };
}

pub none_passes : (passes : ℕ → Bool) (value free : ℕ) (a : Ways) → free ≡ 0 → passes value ≡ false → Gathered passes value free a a
none_passes passes value free a none fails = record {
  few = omega arith;
  kept = record { has = λ x h. h };
  all = record {
    each = λ s part passing.
        let e : value ≡ value + s = omega (arith, only_one s (subst (IsPart s) none part)) in
        absurd (false≢true (sym fails ∙ ap passes e ∙ passing));
  };
}

pub ruleset gathering = (room_first, room_second, both_halves, one_passes, none_passes)

-- a number's own setting contradicts no constant of an instruction that it fits
agrees : (w c v n : ℕ) → bit_and w c ≡ v → bit_and (bit_and (bit_xor (bit_and w n) v) c) n ≡ 0
agrees w c v n e = same_from_bits _ _ (λ i.
    let one : min (bit_at w i) (bit_at c i) ≡ bit_at v i = sym (bit_at_and w c i) ∙ ap (λ x. bit_at x i) e in
    simp (bit_at_and, bit_at_xor, bit_at-zero) (omega (arith, one, bit_at-lt w i, bit_at-lt c i, bit_at-lt v i, bit_at-lt n i)))

own_part : (w n : ℕ) → bit_and (bit_and w n) n ≡ bit_and w n
own_part w n = same_from_bits _ _ (λ i. simp bit_at_and (omega arith))

both_true : (a b : Bool) → a ≡ true → b ≡ true → (a && b) ≡ true
both_true a b e f = rw (e, f) refl

-- what was gathered over the named bits are the instruction's ways
pub ways_found : (p : Pattern) (asserted : ℕ → Bool) (a b : Ways) → Depends asserted p.named → Gathered (is_way p asserted) 0 p.named a b → HasWays p asserted b
ways_found p asserted a b depends found = record {
  each = λ w fits.
      let s : ℕ = bit_and w p.named in
      let meets : asserted s ≡ true = depends.on s w (own_part w p.named) ∙ fits.meets in
      let none : (bit_and (bit_and (bit_xor s p.value) p.cover) p.named == 0) ≡ true = eq-eqb _ _ (agrees w p.cover p.value p.named fits.stands) in
      let front : s ≡ 0 + s = omega arith in
      subst (Has b) (sym front) (found.all.each s (record { part = own_part w p.named }) (ap (is_way p asserted) (sym front) ∙ both_true _ _ meets none));
}

pub room_at_all : (n free : ℕ) → n ≡ 0 → count_ones free ≤ 8 → n + 2 ^ count_ones free ≤ 256
room_at_all n free none few =
    let le : 2 ^ count_ones free ≤ 2 ^ 8 = pow-le-pow_right (omega arith) few in
    omega (arith, le)

pub few_ways : (passes : ℕ → Bool) (free : ℕ) (a b : Ways) → a.count ≡ 0 → count_ones free ≤ 8 → Gathered passes 0 free a b → b.count ≤ 256
few_ways passes free a b none few found = omega (arith, room_at_all a.count free none few, found.few)

pub ruleset finding = (ways_found, room_at_all, few_ways)
