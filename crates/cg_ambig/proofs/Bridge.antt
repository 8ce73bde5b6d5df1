-- Instructions match bytes exactly where their patterns fit the whole.
use Rattle.std.proofs.Common.{◌≡◌, ℕ, ◌+◌, ◌-◌, ◌*◌, ◌/◌, ◌%◌, ◌^◌, ◌<◌, ◌≤◌, min, bit_and, count_ones, Bool, true, false, ◌&&◌, nat_le, List, length, take, slice_index, map, Option, Some, None, slice_get, sym, ap, ◌∙◌, refl, subst, inl, inr, arith, length-take}
use Rattle.std.specs.List.{list_all}
use Rattle.std.specs.Int.{bit_at}
use Rattle.std.proofs.lemmas.Nat.{pow_pos, div-add-mod', mod_below}
use Rattle.std.proofs.lemmas.Nat.Bits.{bit_at_and, bit_at_cat_low, bit_at_cat_high, bit_at_above, bit_at-zero, same_from_bits}
use Rattle.std.proofs.lemmas.Bool.{false≢true, cases_lt}
use Rattle.std.proofs.lemmas.Bool.Decides.{nat_tests}
use Rattle.std.proofs.lemmas.Option.{slice_get-map}
use Rattle.std.proofs.Math.Nat.{mod-eq_of_lt}
use Rattle.cg_model.specs.declared.insn.Insn.{Insn}
use Rattle.cg_model.specs.declared.machine.Machine.{Machine}
use Rattle.cg_model.specs.Matching.{length_of, fields_of_parts, part_stands, asserts, IsMatch}
use Rattle.cg_ambig_pattern.specs.declared.pairs.Pattern.{Pattern}
use Rattle.cg_ambig_pattern.specs.Together.{Fits, Depends, Covers}
use Rattle.cg_ambig_pattern.specs.First.{AreSound, Clashes, NoClash, IsFirst}
use Rattle.cg_code_mask.specs.View.{whole, bytes_of_whole}
use Rattle.cg_model.specs.Clashing.{AreBytes}
use Rattle.cg_model.specs.Covers.{asked_bits}
use Rattle.cg_code_mask.specs.Constants.{parts_cover}
use Rattle.cg_code_mask.proofs.Standing.{parts_inside, parts_to_whole, parts_from_whole}
use Rattle.cg_code_mask.proofs.Within.{last_within, covered}
use Rattle.cg_code_mask.proofs.Naming.{placed_among, asked_low}
use Rattle.cg_code_mask.proofs.Depending.{same_asserted}
use Rattle.cg_ambig.specs.Patterns.{pattern, asserted_of, asserted, HasPatterns}
use Rattle.cg_model.specs.Clashing.{length_at, longer, Clashes as ClashOn, NoClash as NoClashing, FirstClash as IsFirstClash}
use Rattle.cg_code_mask.proofs.Wholes.{are_whole_bytes, length_whole, whole_back, whole_fits, front_bytes, whole_of_front, zeros_behind, number_order}

first_true : (a b : Bool) → (a && b) ≡ true → a ≡ true
first_true true b e = refl
first_true false b e = e

second_true : (a b : Bool) → (a && b) ≡ true → b ≡ true
second_true true b e = e
second_true false b e = absurd (false≢true e)

both_true : (a b : Bool) → a ≡ true → b ≡ true → (a && b) ≡ true
both_true a b e f = rw (e, f) refl

-- the assertion at an instruction's number
asserted_at : (m : Machine) (k : ℕ) (i : Insn) (w : ℕ) → slice_get m.insns k ≡ Some i → asserted m k w ≡ asserts m i (bytes_of_whole w)
asserted_at m k i w e = ap (λ o. asserted_of m o (bytes_of_whole w)) e

-- bytes and the bytes of their whole meet the same assertions
depending : (m : Machine) (k : ℕ) (i : Insn) → HasPatterns m → slice_get m.insns k ≡ Some i → (xs ys : List ℕ) → AreBytes xs → AreBytes ys → bit_and (whole xs) (asked_bits m i) ≡ bit_and (whole ys) (asked_bits m i) → asserts m i xs ≡ asserts m i ys
depending m k i sound is xs ys h l same =
    same_asserted m i xs ys (placed_among m (fields_of_parts m i.parts) sound.placed (omega (arith, last_within m i sound.placed, sound.short k i is))) (sound.named k i is) h l same

same_through : (m : Machine) (k : ℕ) (i : Insn) (bytes : List ℕ) → HasPatterns m → slice_get m.insns k ≡ Some i → AreBytes bytes → asserts m i (bytes_of_whole (whole bytes)) ≡ asserts m i bytes
same_through m k i bytes sound is h =
    let back : whole (bytes_of_whole (whole bytes)) ≡ whole bytes = whole_back (whole bytes) ∙ mod-eq_of_lt (whole_fits bytes h) in
    depending m k i sound is (bytes_of_whole (whole bytes)) bytes (are_whole_bytes (whole bytes)) h (ap (λ w. bit_and w (asked_bits m i)) back)

-- what matches bytes fits their whole
fits_of_match : (m : Machine) (k : ℕ) (bytes : List ℕ) → HasPatterns m → AreBytes bytes → (x : IsMatch m bytes k) → Fits (pattern m x.insn) (asserted m k) (whole bytes)
fits_of_match m k bytes sound h x =
    let i : Insn = x.insn in
    let front : (nat_le (length_of m i) (length bytes) && list_all (part_stands m bytes) i.parts) ≡ true = first_true _ (asserts m i bytes) x.matching in
    record {
      decodable = x.decodable;
      stands = parts_to_whole m i.parts bytes (sound.fitting k i x.within) h (second_true (nat_le (length_of m i) (length bytes)) _ front);
      meets = asserted_at m k i (whole bytes) x.within ∙ same_through m k i bytes sound x.within h ∙ second_true (nat_le (length_of m i) (length bytes) && list_all (part_stands m bytes) i.parts) _ x.matching;
    }

-- and what fits the whole of bytes that are long enough matches them
pub match_of_fits : (m : Machine) (k : ℕ) (i : Insn) (bytes : List ℕ) → HasPatterns m → AreBytes bytes → slice_get m.insns k ≡ Some i → length_of m i ≤ length bytes → Fits (pattern m i) (asserted m k) (whole bytes) → IsMatch m bytes k
match_of_fits m k i bytes sound h is long x =
    let enough : nat_le (length_of m i) (length bytes) ≡ true = grind (arith, nat_tests) in
    record {
      insn = i;
      within = is;
      decodable = x.decodable;
      matching = both_true _ (asserts m i bytes)
          (both_true (nat_le (length_of m i) (length bytes)) _ enough (parts_from_whole m i.parts bytes (sound.fitting k i is) h x.stands))
          (sym (same_through m k i bytes sound is h) ∙ sym (asserted_at m k i (whole bytes) is) ∙ x.meets);
    }

-- pattern number k
pub pattern_at : (m : Machine) (k : ℕ) (i : Insn) → slice_get m.insns k ≡ Some i → slice_get (map (pattern m) m.insns) k ≡ Some (pattern m i)
pattern_at m k i is = slice_get-map (pattern m) m.insns k ∙ ap (λ o. elim o as (λ _. Option Pattern) [ None ↦ None | Some x ↦ Some (pattern m x) ]) is

-- a clash on bytes is one on their whole
pub to_whole : (m : Machine) (i j : ℕ) (bytes : List ℕ) → HasPatterns m → ClashOn m i j bytes → Clashes (map (pattern m) m.insns) (asserted m) i j (whole bytes)
to_whole m i j bytes sound x = record {
  before = x.before;
  first = pattern m x.first.insn;
  second = pattern m x.second.insn;
  first_at = pattern_at m i x.first.insn x.first.within;
  second_at = pattern_at m j x.second.insn x.second.within;
  both = record { first = fits_of_match m i bytes sound x.are_bytes x.first; second = fits_of_match m j bytes sound x.are_bytes x.second };
}

-- the instruction of a pattern
record At (m : Machine) (k : ℕ) (p : Pattern) : Type 0 where
  insn : Insn
  is : slice_get m.insns k ≡ Some insn
  same : pattern m insn ≡ p

at_of : (m : Machine) (k : ℕ) (p : Pattern) (o : Option Insn) → slice_get m.insns k ≡ o → elim o as (λ _. Option Pattern) [ None ↦ None | Some x ↦ Some (pattern m x) ] ≡ Some p → At m k p
at_of m k p None is e = absurd cc
at_of m k p (Some i) is e = record { insn = i; is = is; same = ap (λ o. elim o as (λ _. Pattern) [ None ↦ p | Some q ↦ q ]) e }

at : (m : Machine) (k : ℕ) (p : Pattern) → slice_get (map (pattern m) m.insns) k ≡ Some p → At m k p
at m k p e = at_of m k p (slice_get m.insns k) refl (sym (slice_get-map (pattern m) m.insns k) ∙ e)

-- the bits of a number modulo 2 ^ k
pub low_part : (a k q : ℕ) → q < k → bit_at (a % 2 ^ k) q ≡ bit_at a q
low_part a k q h = sym (bit_at_cat_low (a / 2 ^ k) k (a % 2 ^ k) q h) ∙ ap (λ x. bit_at x q) (div-add-mod' a (2 ^ k))

pub high_part : (a k q : ℕ) → k ≤ q → bit_at (a % 2 ^ k) q ≡ 0
high_part a k q h = bit_at_above (a % 2 ^ k) k q (mod_below a (2 ^ k) (pow_pos k)) h

-- what two numbers share under some bits, their lowest bits share
cut_alike : (a b n k : ℕ) → bit_and a n ≡ bit_and b n → bit_and (a % 2 ^ k) n ≡ bit_and (b % 2 ^ k) n
cut_alike a b n k same = same_from_bits _ _ (λ q.
    let one : min (bit_at a q) (bit_at n q) ≡ min (bit_at b q) (bit_at n q) = sym (bit_at_and a n q) ∙ ap (λ x. bit_at x q) same ∙ bit_at_and b n q in
    bit_at_and (a % 2 ^ k) n q
    ∙ elim (cases_lt q k) [
      | inl lt ↦ ap (λ x. min x (bit_at n q)) (low_part a k q lt) ∙ one ∙ ap (λ x. min x (bit_at n q)) (sym (low_part b k q lt))
      | inr ge ↦ ap (λ x. min x (bit_at n q)) (high_part a k q ge ∙ sym (high_part b k q ge))
    ]
    ∙ sym (bit_at_and (b % 2 ^ k) n q))

-- the patterns of a sound machine
pub patterns_sound : (m : Machine) → HasPatterns m → AreSound (map (pattern m) m.insns) (asserted m)
patterns_sound m sound = record {
  covers = λ k p e.
      let x : At m k p = at m k p e in
      subst Covers x.same (record { inside = parts_inside m x.insn.parts (sound.fitting k x.insn x.is) });
  depends = λ k p e.
      let x : At m k p = at m k p e in
      subst (λ p. Depends (asserted m k) p.named) x.same (record {
        on = λ a b same.
            asserted_at m k x.insn a x.is
            ∙ depending m k x.insn sound x.is (bytes_of_whole a) (bytes_of_whole b) (are_whole_bytes a) (are_whole_bytes b)
            (ap (λ w. bit_and w (asked_bits m x.insn)) (whole_back a) ∙ cut_alike a b (asked_bits m x.insn) 128 same ∙ ap (λ w. bit_and w (asked_bits m x.insn)) (sym (whole_back b)))
            ∙ sym (asserted_at m k x.insn b x.is);
      });
  few = λ k p e.
      let x : At m k p = at m k p e in
      subst (λ p. count_ones p.named ≤ 8) x.same (sound.few k x.insn x.is);
}

-- a number without its lowest bits
upper : ℕ → ℕ → ℕ
upper w r = w / 2 ^ r * 2 ^ r

-- the lowest bits don't count where none of them is asked for
same_above : (w r s c : ℕ) → r ≤ s → c % 2 ^ s ≡ 0 → bit_and (upper w r) c ≡ bit_and w c
unfolding upper
same_above w r s c le zero_below = same_from_bits _ _ (λ q.
    bit_at_and (upper w r) c q
    ∙ elim (cases_lt q r) [
      | inl lt ↦
          let none : bit_at c q ≡ 0 = sym (low_part c s q (omega arith)) ∙ ap (λ x. bit_at x q) zero_below ∙ bit_at-zero q in
          omega (arith, none)
      | inr ge ↦
          let split : w / 2 ^ r * 2 ^ r + w % 2 ^ r ≡ w = div-add-mod' w (2 ^ r) in
          let plain : w / 2 ^ r * 2 ^ r ≡ w / 2 ^ r * 2 ^ r + 0 = omega arith in
          let one : bit_at (w / 2 ^ r * 2 ^ r) q ≡ bit_at (w / 2 ^ r) (q - r) = ap (λ x. bit_at x q) plain ∙ bit_at_cat_high (w / 2 ^ r) r 0 q (pow_pos r) ge in
          let two : bit_at w q ≡ bit_at (w / 2 ^ r) (q - r) = ap (λ x. bit_at x q) (sym split) ∙ bit_at_cat_high (w / 2 ^ r) r (w % 2 ^ r) q (mod_below w (2 ^ r) (pow_pos r)) ge in
          ap (λ x. min x (bit_at c q)) (one ∙ sym two)
    ]
    ∙ sym (bit_at_and w c q))

-- what fits a number fits it without bits behind the instruction
fits_above : (m : Machine) (k r : ℕ) (i : Insn) (w : ℕ) → HasPatterns m → slice_get m.insns k ≡ Some i → r ≤ 8 * (16 - length_of m i) → Fits (pattern m i) (asserted m k) w → Fits (pattern m i) (asserted m k) (upper w r)
fits_above m k r i w sound is le x =
    let depends : Depends (asserted m k) (asked_bits m i) = (patterns_sound m sound).depends k (pattern m i) (pattern_at m k i is) in
    record {
      decodable = x.decodable;
      stands = same_above w r (8 * (16 - length_of m i)) (parts_cover m i.parts) le (covered m i sound.placed) ∙ x.stands;
      meets = depends.on (upper w r) w (same_above w r (8 * (16 - length_of m i)) (asked_bits m i) le (asked_low m i sound.placed (sound.named k i is))) ∙ x.meets;
    }

-- the length of the instruction at a number
pub length_is : (m : Machine) (k : ℕ) (i : Insn) → slice_get m.insns k ≡ Some i → length_at m k ≡ length_of m i
length_is m k i is = ap (λ o. elim o as (λ _. ℕ) [ None ↦ 0 | Some x ↦ length_of m x ]) is

-- the two instructions of a clash on numbers
pub record Two (m : Machine) (i j w : ℕ) : Type 0 where
  pub first : Insn
  pub second : Insn
  pub first_is : slice_get m.insns i ≡ Some first
  pub second_is : slice_get m.insns j ≡ Some second
  pub first_fits : Fits (pattern m first) (asserted m i) w
  pub second_fits : Fits (pattern m second) (asserted m j) w

pub two_of : (m : Machine) (i j w : ℕ) → Clashes (map (pattern m) m.insns) (asserted m) i j w → Two m i j w
two_of m i j w x =
    let p : At m i x.first = at m i x.first x.first_at in
    let q : At m j x.second = at m j x.second x.second_at in
    record {
      first = p.insn;
      second = q.insn;
      first_is = p.is;
      second_is = q.is;
      first_fits = subst (λ y. Fits y (asserted m i) w) (sym p.same) x.both.first;
      second_fits = subst (λ y. Fits y (asserted m j) w) (sym q.same) x.both.second;
    }

clash_of : (m : Machine) (i j w : ℕ) → i < j → Two m i j w → Clashes (map (pattern m) m.insns) (asserted m) i j w
clash_of m i j w before x = record {
  before = before;
  first = pattern m x.first;
  second = pattern m x.second;
  first_at = pattern_at m i x.first x.first_is;
  second_at = pattern_at m j x.second x.second_is;
  both = record { first = x.first_fits; second = x.second_fits };
}

pub longer_few : (m : Machine) (i j w : ℕ) → HasPatterns m → Two m i j w → longer m i j ≤ 16
longer_few m i j w sound x = omega (arith, length_is m i x.first x.first_is, length_is m j x.second x.second_is, sound.short i x.first x.first_is, sound.short j x.second x.second_is)

-- the least number has no bit behind the longer of the two
no_bit_behind : (m : Machine) (i j w : ℕ) → HasPatterns m → IsFirst (map (pattern m) m.insns) (asserted m) i j w → w % 2 ^ (8 * (16 - longer m i j)) ≡ 0
unfolding upper
no_bit_behind m i j w sound found =
    let x : Two m i j w = two_of m i j w found.clashes in
    let r : ℕ = 8 * (16 - longer m i j) in
    let first_le : r ≤ 8 * (16 - length_of m x.first) = omega (arith, length_is m i x.first x.first_is) in
    let second_le : r ≤ 8 * (16 - length_of m x.second) = omega (arith, length_is m j x.second x.second_is) in
    let y : Two m i j (upper w r) = record {
      first = x.first;
      second = x.second;
      first_is = x.first_is;
      second_is = x.second_is;
      first_fits = fits_above m i r x.first w sound x.first_is first_le x.first_fits;
      second_fits = fits_above m j r x.second w sound x.second_is second_le x.second_fits;
    } in
    let least : w ≤ w / 2 ^ r * 2 ^ r = found.least (upper w r) (clash_of m i j (upper w r) found.clashes.before y) in
    omega (arith, least, div-add-mod' w (2 ^ r))

clash_on_front : (m : Machine) (i j w : ℕ) → HasPatterns m → w < 2 ^ 128 → IsFirst (map (pattern m) m.insns) (asserted m) i j w → whole (take (longer m i j) (bytes_of_whole w)) ≡ w
clash_on_front m i j w sound fits found =
    whole_of_front (longer m i j) w (longer_few m i j w sound (two_of m i j w found.clashes)) fits (no_bit_behind m i j w sound found)

-- The first clash on numbers is the first clash on bytes.
pub first_on_bytes : (m : Machine) (i j w : ℕ) → HasPatterns m → w < 2 ^ 128 → IsFirst (map (pattern m) m.insns) (asserted m) i j w → IsFirstClash m i j (take (longer m i j) (bytes_of_whole w))
first_on_bytes m i j w sound fits found =
    let x : Two m i j w = two_of m i j w found.clashes in
    let n : ℕ = longer m i j in
    let bytes : List ℕ = take n (bytes_of_whole w) in
    let back : whole bytes ≡ w = clash_on_front m i j w sound fits found in
    let h : AreBytes bytes = front_bytes n (bytes_of_whole w) (are_whole_bytes w) in
    let long : length bytes ≡ n = omega (arith, length-take n (bytes_of_whole w), length_whole w, longer_few m i j w sound x) in
    record {
      clashes = record {
        before = found.clashes.before;
        first = match_of_fits m i x.first bytes sound h x.first_is (omega (arith, long, length_is m i x.first x.first_is)) (subst (Fits (pattern m x.first) (asserted m i)) (sym back) x.first_fits);
        second = match_of_fits m j x.second bytes sound h x.second_is (omega (arith, long, length_is m j x.second x.second_is)) (subst (Fits (pattern m x.second) (asserted m j)) (sym back) x.second_fits);
        are_bytes = h;
        long = long;
      };
      by_first = λ k l other c. found.by_first k l (whole other) (to_whole m k l other sound c);
      by_second = λ l other c. found.by_second l (whole other) (to_whole m i l other sound c);
      least = λ other c. number_order n bytes other long c.long (longer_few m i j w sound x) (subst (λ y. y ≤ whole other) (sym back) (found.least (whole other) (to_whole m i j other sound c)));
    }

-- and behind those bytes there are zeros
pub zeros_after : (m : Machine) (i j w k : ℕ) → HasPatterns m → w < 2 ^ 128 → IsFirst (map (pattern m) m.insns) (asserted m) i j w → longer m i j ≤ k → k < 16 → slice_index (bytes_of_whole w) k ≡ 0
zeros_after m i j w k sound fits found behind below = zeros_behind (longer m i j) w k fits (no_bit_behind m i j w sound found) behind below

pub none_on_bytes : (m : Machine) → HasPatterns m → NoClash (map (pattern m) m.insns) (asserted m) → NoClashing m
none_on_bytes m sound x = record { none = λ i j bytes c. x.none i j (whole bytes) (to_whole m i j bytes sound c) }
