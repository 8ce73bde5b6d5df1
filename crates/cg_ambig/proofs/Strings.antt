-- The first clash is the first on the strings of few settings.
use Rattle.std.proofs.Common.{◌≡◌, ℕ, ◌+◌, ◌-◌, ◌*◌, ◌%◌, ◌/◌, ◌^◌, ◌<◌, ◌≤◌, bit_and, bit_or, List, length, take, slice_index, sym, ap, ◌∙◌, refl, subst, inl, inr, arith, length-take}
use Rattle.std.specs.Int.{bit_at}
use Rattle.std.proofs.lemmas.Bool.{cases_lt}
use Rattle.std.proofs.lemmas.Nat.Bits.{bit_at_and, bit_at-zero, same_from_bits, same_from_bits_below}
use Rattle.std.proofs.lemmas.Grind.{same_number_lists}
use Rattle.cg_base.specs.declared.mode.Endian.TheVariants.{Big}
use Rattle.cg_base.specs.Bytes.{number_of}
use Rattle.cg_ambig_pattern.specs.declared.pairs.Pattern.{Pattern}
use Rattle.cg_ambig_pattern.specs.First.{AreSound}
use Rattle.cg_ambig_pattern.specs.Together.{Fits, Both, Covers, contradictions, constants}
use Rattle.cg_ambig_pattern.proofs.Counting.{few_open}
use Rattle.cg_ambig_pattern.proofs.Together.{Cut, cut_of, both_of, agreeing}
use Rattle.cg_model.specs.Clashing.{AreBytes, longer, Clashes, FirstClash}
use Rattle.cg_model.specs.Covers.{asked_bits}
use Rattle.cg_model.specs.Sound.{IsSound}
use Rattle.cg_model.specs.declared.machine.Machine.{Machine}
use Rattle.cg_model.specs.Matching.{length_of}
use Rattle.cg_code_mask.specs.Constants.{parts_cover}
use Rattle.cg_code_mask.specs.View.{whole, bytes_of_whole}
use Rattle.cg_code_mask.proofs.Naming.{asked_low}
use Rattle.cg_code_mask.proofs.Within.{covered, both_low}
use Rattle.cg_code_mask.proofs.Wholes.{are_whole_bytes, length_whole, whole_fits, front_bytes, whole_of_front, whole_of_number, number_order, whole_bit, low_bit}
use Rattle.cg_ambig.specs.Patterns.{pattern, asserted, HasPatterns}
use Rattle.cg_ambig.specs.Strings.{ClashesOnString, SameOnStrings}
use Rattle.cg_ambig.proofs.Bridge.{Two, two_of, to_whole, match_of_fits, pattern_at, length_is, longer_few, low_part, high_part, patterns_sound}
use Rattle.cg_ambig.proofs.Sounding.{has_patterns}

-- a number that is 0 below a place is 0 below each place before
lower_still : (w s r : ℕ) → r ≤ s → w % 2 ^ s ≡ 0 → w % 2 ^ r ≡ 0
lower_still w s r le low = same_from_bits _ _ (λ q. elim (cases_lt q r) [
  | inl lt ↦ low_part w r q lt ∙ low_bit w s q low (omega arith) ∙ sym (bit_at-zero q)
  | inr ge ↦ high_part w r q ge ∙ sym (bit_at-zero q)
])

-- and so are its bits that another shows
shown_low : (w a r : ℕ) → a % 2 ^ r ≡ 0 → bit_and w a % 2 ^ r ≡ 0
shown_low w a r low = same_from_bits _ _ (λ q. elim (cases_lt q r) [
  | inl lt ↦ low_part (bit_and w a) r q lt ∙ bit_at_and w a q ∙ omega (arith, low_bit a r q low lt, bit_at-zero q)
  | inr ge ↦ high_part (bit_and w a) r q ge ∙ sym (bit_at-zero q)
])

-- bytes of one length that are one number are the same
pub same_bytes : (n : ℕ) (xs ys : List ℕ) → AreBytes xs → AreBytes ys → length xs ≡ n → length ys ≡ n → n ≤ 16 → whole xs ≡ whole ys → xs ≡ ys
same_bytes n xs ys h k long same_long few same = same_number_lists xs ys (omega (arith, long, same_long)) (λ i below.
    same_from_bits_below 8 _ _ (h.below i) (k.below i) (λ t small.
    let q : ℕ = 8 * (15 - i) + t in
    let at : i ≡ 15 - q / 8 = omega (arith, below, long) in
    let bit : t ≡ q % 8 = omega (arith, small) in
    let under : q < 128 = omega (arith, small) in
    ap (λ j. bit_at (slice_index xs j) t) at ∙ ap (bit_at (slice_index xs (15 - q / 8))) bit
    ∙ sym (whole_bit xs q h under) ∙ ap (λ x. bit_at x q) same ∙ whole_bit ys q k under
    ∙ sym (ap (λ j. bit_at (slice_index ys j) t) at ∙ ap (bit_at (slice_index ys (15 - q / 8))) bit)))

-- a string of few settings that two instructions match where they match some bytes, and that isn't above these
record Lower (m : Machine) (i j : ℕ) (bytes : List ℕ) : Type 0 where
  other : List ℕ
  clash : ClashesOnString m i j other
  below : number_of Big (longer m i j) other ≤ number_of Big (longer m i j) bytes

-- what the two name and cover has no bit behind the longer of them
all_low : (m : Machine) (i j w r : ℕ) → HasPatterns m → (x : Two m i j w) → r ≤ 8 * (16 - length_of m x.first) → r ≤ 8 * (16 - length_of m x.second)
    → bit_or (bit_or (asked_bits m x.first) (asked_bits m x.second)) (bit_or (parts_cover m x.first.parts) (parts_cover m x.second.parts)) % 2 ^ r ≡ 0
all_low m i j w r h x le ge =
    both_low (bit_or (asked_bits m x.first) (asked_bits m x.second)) (bit_or (parts_cover m x.first.parts) (parts_cover m x.second.parts)) r
    (both_low (asked_bits m x.first) (asked_bits m x.second) r
    (lower_still (asked_bits m x.first) (8 * (16 - length_of m x.first)) r le (asked_low m x.first h.placed (h.named i x.first x.first_is)))
    (lower_still (asked_bits m x.second) (8 * (16 - length_of m x.second)) r ge (asked_low m x.second h.placed (h.named j x.second x.second_is))))
    (both_low (parts_cover m x.first.parts) (parts_cover m x.second.parts) r
    (lower_still (parts_cover m x.first.parts) (8 * (16 - length_of m x.first)) r le (covered m x.first h.placed))
    (lower_still (parts_cover m x.second.parts) (8 * (16 - length_of m x.second)) r ge (covered m x.second h.placed)))

lower : (m : Machine) (i j : ℕ) (bytes : List ℕ) → IsSound m → Clashes m i j bytes → Lower m i j bytes
lower m i j bytes sound c =
    let h : HasPatterns m = has_patterns m sound in
    let s : AreSound _ (asserted m) = patterns_sound m h in
    let x : Two m i j (whole bytes) = two_of m i j (whole bytes) (to_whole m i j bytes h c) in
    let p : Pattern = pattern m x.first in
    let q : Pattern = pattern m x.second in
    let cp : Covers p = s.covers i p (pattern_at m i x.first x.first_is) in
    let cq : Covers q = s.covers j q (pattern_at m j x.second x.second_is) in
    let y : Cut p q (asserted m i) (asserted m j) (whole bytes) = cut_of p q (asserted m i) (asserted m j) (whole bytes) cp cq
    (s.depends i p (pattern_at m i x.first x.first_is)) (s.depends j q (pattern_at m j x.second x.second_is)) (record { first = x.first_fits; second = x.second_fits }) in
    let w : ℕ = constants p q + y.set in
    let none : contradictions p q ≡ 0 = agreeing (whole bytes) p.cover q.cover p.value q.value x.first_fits.stands x.second_fits.stands in
    let both : Both p q (asserted m i) (asserted m j) w = both_of p q (asserted m i) (asserted m j) y.set x.first_fits.decodable x.second_fits.decodable cp cq none y.part y.passing in
    let n : ℕ = longer m i j in
    let few : n ≤ 16 = longer_few m i j (whole bytes) h x in
    let fits : w < 2 ^ 128 = omega (arith, y.below, whole_fits bytes c.are_bytes) in
    let low : w % 2 ^ (8 * (16 - n)) ≡ 0 = ap (λ v. v % 2 ^ (8 * (16 - n))) y.shown
    ∙ shown_low (whole bytes) _ (8 * (16 - n)) (all_low m i j (whole bytes) (8 * (16 - n)) h x (omega (arith, length_is m i x.first x.first_is)) (omega (arith, length_is m j x.second x.second_is))) in
    let other : List ℕ = take n (bytes_of_whole w) in
    let back : whole other ≡ w = whole_of_front n w few fits low in
    let are : AreBytes other = front_bytes n (bytes_of_whole w) (are_whole_bytes w) in
    let long : length other ≡ n = omega (arith, length-take n (bytes_of_whole w), length_whole w, few) in
    record {
      other = other;
      clash = record {
        clashes = record {
          before = c.before;
          first = match_of_fits m i x.first other h are x.first_is (omega (arith, long, length_is m i x.first x.first_is)) (subst (λ v. Fits p (asserted m i) v) (sym back) both.first);
          second = match_of_fits m j x.second other h are x.second_is (omega (arith, long, length_is m j x.second x.second_is)) (subst (λ v. Fits q (asserted m j) v) (sym back) both.second);
          are_bytes = are;
          long = long;
        };
        is_string = record {
          first = x.first;
          second = x.second;
          first_at = x.first_is;
          second_at = x.second_is;
          agree = none;
          set = y.set;
          part = y.part;
          few = few_open p q (h.few i x.first x.first_is) (h.few j x.second x.second_is);
          is = refl;
        };
      };
      below = number_order n other bytes long c.long few (subst (λ v. v ≤ whole bytes) (sym back) y.below);
    }

-- two lists that both are the least of their length are the same
least_same : (m : Machine) (i j : ℕ) (xs ys : List ℕ) → IsSound m → Clashes m i j xs → Clashes m i j ys → number_of Big (longer m i j) xs ≡ number_of Big (longer m i j) ys → xs ≡ ys
least_same m i j xs ys sound c d same =
    let n : ℕ = longer m i j in
    let h : HasPatterns m = has_patterns m sound in
    let few : n ≤ 16 = longer_few m i j (whole xs) h (two_of m i j (whole xs) (to_whole m i j xs h c)) in
    same_bytes n xs ys c.are_bytes d.are_bytes c.long d.long few (whole_of_number n xs c.long few ∙ ap (λ x. x * 256 ^ (16 - n)) same ∙ sym (whole_of_number n ys d.long few))

on_string : (m : Machine) (i j : ℕ) (bytes : List ℕ) → IsSound m → FirstClash m i j bytes → ClashesOnString m i j bytes
on_string m i j bytes sound f =
    let l : Lower m i j bytes = lower m i j bytes sound f.clashes in
    let same : l.other ≡ bytes = least_same m i j l.other bytes sound l.clash.clashes f.clashes (omega (arith, l.below, f.least l.other l.clash.clashes)) in
    subst (ClashesOnString m i j) same l.clash

-- Both accounts say the same of a sound machine.
pub same_on_strings : (m : Machine) → IsSound m → SameOnStrings m
same_on_strings m sound = record {
  none_to = λ x. record { none = λ i j bytes c. x.none i j bytes c.clashes };
  none_from = λ x. record { none = λ i j bytes c. let l : Lower m i j bytes = lower m i j bytes sound c in x.none i j l.other l.clash };
  first_to = λ i j bytes f. record {
    clashes = on_string m i j bytes sound f;
    by_first = λ k l other c. f.by_first k l other c.clashes;
    by_second = λ l other c. f.by_second l other c.clashes;
    least = λ other c. f.least other c.clashes;
  };
  first_from = λ i j bytes f. record {
    clashes = f.clashes.clashes;
    by_first = λ k l other c. let x : Lower m k l other = lower m k l other sound c in f.by_first k l x.other x.clash;
    by_second = λ l other c. let x : Lower m i l other = lower m i l other sound c in f.by_second l x.other x.clash;
    least = λ other c. let x : Lower m i j other = lower m i j other sound c in omega (arith, x.below, f.least x.other x.clash);
  };
}
