-- Where no two instructions clash, bytes are decoded to the only one that matches.
use Rattle.std.proofs.Common.{◌≡◌, ℕ, zero, suc, ◌+◌, ◌-◌, ◌*◌, ◌/◌, ◌%◌, ◌^◌, ◌<◌, ◌≤◌, min, max, bit_and, Bool, true, false, ◌&&◌, nat_le, if◌then◌else◌, List, [], ◌∷◌, length, take, Option, Some, None, slice_get, sym, ap, ◌∙◌, refl, subst, inl, inr, MatchOption, arith, length-take}
use Rattle.std.specs.Int.{bit_at}
use Rattle.std.specs.List.{list_all}
use Rattle.std.proofs.lemmas.Bool.{and_from, and_parts, cases_lt, cases_order}
use Rattle.std.proofs.lemmas.Bool.Decides.{nat_tests}
use Rattle.std.proofs.lemmas.List.{get_or-take}
use Rattle.std.proofs.lemmas.Nat.Bits.{bit_at_and, bit_at_above, bit_at-lt, same_from_bits}
use Rattle.cg_ambig.specs.Patterns.{HasPatterns}
use Rattle.cg_ambig.proofs.Sounding.{has_patterns}
use Rattle.cg_model.specs.Clashing.{AreBytes, Clashes, NoClash, decoded_from, decoded_to, length_at, longer}
use Rattle.cg_model.specs.Covers.{asked_bits}
use Rattle.cg_model.specs.Matching.{length_of, fields_of_parts, part_stands, asserts, matches, IsMatch, Decodes}
use Rattle.cg_model.specs.Sound.{IsSound}
use Rattle.cg_model.specs.declared.insn.Insn.{Insn}
use Rattle.cg_model.specs.declared.machine.Machine.{Machine}
use Rattle.cg_code_mask.specs.Constants.{parts_cover, parts_value}
use Rattle.cg_code_mask.specs.View.{whole}
use Rattle.cg_code_mask.proofs.Depending.{same_asserted}
use Rattle.cg_code_mask.proofs.Naming.{placed_among, asked_low}
use Rattle.cg_code_mask.proofs.Standing.{parts_to_whole, parts_from_whole}
use Rattle.cg_code_mask.proofs.Wholes.{whole_fits, whole_bit, front_bytes, low_bit}
use Rattle.cg_code_mask.proofs.Within.{last_within, covered}
use Rattle.cg_tree.specs.Decoding.{NoMatch}
use Rattle.cg_tree.proofs.Decoding.{StandFrom, from_zero}

-- bits of the first n bytes are those of all
front_high : (n q : ℕ) (bytes : List ℕ) → AreBytes bytes → n ≤ 16 → 8 * (16 - n) ≤ q → bit_at (whole (take n bytes)) q ≡ bit_at (whole bytes) q
front_high n q bytes are few above =
    let front : AreBytes (take n bytes) = front_bytes n bytes are in
    elim (cases_lt q 128) [
      | inl lt ↦ whole_bit (take n bytes) q front lt ∙ ap (λ x. bit_at x (q % 8)) (get_or-take n bytes (15 - q / 8) 0 (omega (arith, lt, above, few))) ∙ sym (whole_bit bytes q are lt)
      | inr ge ↦ bit_at_above (whole (take n bytes)) 128 q (whole_fits (take n bytes) front) ge ∙ sym (bit_at_above (whole bytes) 128 q (whole_fits bytes are) ge)
    ]

lowest : (a b c : ℕ) → c ≡ 0 → min a c ≡ min b c
lowest a b c e = omega (arith, e)

front_shows : (l n c : ℕ) (bytes : List ℕ) → AreBytes bytes → l ≤ n → n ≤ 16 → c % 2 ^ (8 * (16 - l)) ≡ 0 → bit_and (whole (take n bytes)) c ≡ bit_and (whole bytes) c
front_shows l n c bytes are le few low = same_from_bits _ _ (λ q.
    bit_at_and (whole (take n bytes)) c q
    ∙ elim (cases_lt q (8 * (16 - l))) [
      | inl lt ↦ lowest (bit_at (whole (take n bytes)) q) (bit_at (whole bytes) q) (bit_at c q) (low_bit c (8 * (16 - l)) q low lt)
      | inr ge ↦ ap (λ x. min x (bit_at c q)) (front_high n q bytes are few (omega (arith, ge, le)))
    ]
    ∙ sym (bit_at_and (whole bytes) c q))

-- what matches bytes matches as many of the first of them as it has
matches_front : (m : Machine) (k n : ℕ) (i : Insn) (bytes : List ℕ) → IsSound m → AreBytes bytes → slice_get m.insns k ≡ Some i → length_of m i ≤ n → n ≤ length bytes → n ≤ 16 → matches m i bytes ≡ true → matches m i (take n bytes) ≡ true
matches_front m k n i bytes sound are is le long few fits =
    let patterns : HasPatterns m = has_patterns m sound in
    let front : AreBytes (take n bytes) = front_bytes n bytes are in
    let outer = and_parts (nat_le (length_of m i) (length bytes) && list_all (part_stands m bytes) i.parts) (asserts m i bytes) fits in
    let inner = and_parts (nat_le (length_of m i) (length bytes)) (list_all (part_stands m bytes) i.parts) outer.0 in
    let count : length (take n bytes) ≡ n = omega (arith, length-take n bytes, long) in
    let enough : nat_le (length_of m i) (length (take n bytes)) ≡ true = grind (arith, nat_tests, count, le) in
    let constants : list_all (part_stands m (take n bytes)) i.parts ≡ true =
    parts_from_whole m i.parts (take n bytes) (patterns.fitting k i is) front
    (front_shows (length_of m i) n (parts_cover m i.parts) bytes are le few (covered m i patterns.placed) ∙ parts_to_whole m i.parts bytes (patterns.fitting k i is) are inner.1) in
    let asserted : asserts m i (take n bytes) ≡ asserts m i bytes =
    same_asserted m i (take n bytes) bytes (placed_among m (fields_of_parts m i.parts) patterns.placed (omega (arith, last_within m i patterns.placed, patterns.short k i is))) (patterns.named k i is) front are
    (front_shows (length_of m i) n (asked_bits m i) bytes are le few (asked_low m i patterns.placed (patterns.named k i is))) in
    and_from _ (asserts m i (take n bytes)) (and_from _ _ enough constants) (asserted ∙ outer.1)

length_is : (m : Machine) (k : ℕ) (i : Insn) → slice_get m.insns k ≡ Some i → length_at m k ≡ length_of m i
length_is m k i is = ap (λ o. elim o as (λ _. ℕ) [ None ↦ 0 | Some x ↦ length_of m x ]) is

is_long : (m : Machine) (i : Insn) (bytes : List ℕ) → matches m i bytes ≡ true → length_of m i ≤ length bytes
is_long m i bytes fits =
    let outer = and_parts (nat_le (length_of m i) (length bytes) && list_all (part_stands m bytes) i.parts) (asserts m i bytes) fits in
    let inner : nat_le (length_of m i) (length bytes) ≡ true = (and_parts (nat_le (length_of m i) (length bytes)) (list_all (part_stands m bytes) i.parts) outer.0).0 in
    grind (arith, nat_tests, inner)

-- two that match the same bytes clash on the first of them
clash : (m : Machine) (j k : ℕ) (bytes : List ℕ) → IsSound m → AreBytes bytes → j < k → IsMatch m bytes j → IsMatch m bytes k → Clashes m j k (take (longer m j k) bytes)
clash m j k bytes sound are before x y =
    let first : length_at m j ≡ length_of m x.insn = length_is m j x.insn x.within in
    let second : length_at m k ≡ length_of m y.insn = length_is m k y.insn y.within in
    let few : longer m j k ≤ 16 = omega (arith, first, second, (has_patterns m sound).short j x.insn x.within, (has_patterns m sound).short k y.insn y.within) in
    let long : longer m j k ≤ length bytes = omega (arith, first, second, is_long m x.insn bytes x.matching, is_long m y.insn bytes y.matching) in
    record {
      before = before;
      first = record { insn = x.insn; within = x.within; decodable = x.decodable; matching = matches_front m j (longer m j k) x.insn bytes sound are x.within (omega (arith, first)) long few x.matching };
      second = record { insn = y.insn; within = y.within; decodable = y.decodable; matching = matches_front m k (longer m j k) y.insn bytes sound are y.within (omega (arith, second)) long few y.matching };
      are_bytes = front_bytes (longer m j k) bytes are;
      long = omega (arith, length-take (longer m j k) bytes, long);
    }

only : (m : Machine) (j k : ℕ) (bytes : List ℕ) → IsSound m → NoClash m → AreBytes bytes → IsMatch m bytes j → IsMatch m bytes k → j ≡ k
only m j k bytes sound clear are x y = elim (cases_lt j k) [
  | inl less ↦ absurd (clear.none j k (take (longer m j k) bytes) (clash m j k bytes sound are less x y))
  | inr ge ↦ elim (cases_lt k j) [
    | inl more ↦ absurd (clear.none k j (take (longer m k j) bytes) (clash m k j bytes sound are more y x))
    | inr le ↦ omega (arith, ge, le)
  ]
]

-- the instruction at a place of those that stand in a machine
here : (m : Machine) (k : ℕ) (i : Insn) (is : List Insn) → StandFrom m k (i ∷ is) → slice_get m.insns k ≡ Some i
here m k i is stand = let same : k + 0 ≡ k = omega arith in subst (λ n. slice_get m.insns n ≡ Some i) same (stand 0 i refl)

others : (m : Machine) (k : ℕ) (i : Insn) (is : List Insn) → StandFrom m k (i ∷ is) → StandFrom m (suc k) is
others m k i is stand = λ j x e. let next : k + suc j ≡ suc k + j = omega arith in subst (λ n. slice_get m.insns n ≡ Some x) next (stand (suc j) x e)

by_test : (m : Machine) (bytes : List ℕ) (k : ℕ) (i : Insn) (is : List Insn) (j : ℕ) → StandFrom m k (i ∷ is) → (decoded_from m bytes (suc k) is ≡ Some j → IsMatch m bytes j)
    → (b : Bool) → (i.decodable && matches m i bytes) ≡ b → (if b then Some k else decoded_from m bytes (suc k) is) ≡ Some j → IsMatch m bytes j
by_test m bytes k i is j stand rest true both e =
    let parts = and_parts i.decodable (matches m i bytes) both in
    let same : k ≡ j = cc in
    subst (IsMatch m bytes) same (record { insn = i; within = here m k i is stand; decodable = parts.0; matching = parts.1 })
by_test m bytes k i is j stand rest false both e = rest e

-- what is found first matches
first_matches : (m : Machine) (bytes : List ℕ) (k : ℕ) (is : List Insn) (j : ℕ) → StandFrom m k is → decoded_from m bytes k is ≡ Some j → IsMatch m bytes j
first_matches m bytes k [] j stand e = absurd (cc)
first_matches m bytes k (i ∷ is) j stand e = by_test m bytes k i is j stand (first_matches m bytes (suc k) is j (others m k i is stand)) (i.decodable && matches m i bytes) refl e

past : (m : Machine) (bytes : List ℕ) (k : ℕ) (x : Insn) (xs : List Insn) → (if (x.decodable && matches m x bytes) then Some k else decoded_from m bytes (suc k) xs) ≡ None → (decoded_from m bytes (suc k) xs ≡ None → ⊥) → (b : Bool) → (x.decodable && matches m x bytes) ≡ b → ⊥
past m bytes k x xs e later true test = let found : Some k ≡ None = sym (ap (λ b. if b then Some k else decoded_from m bytes (suc k) xs) test) ∙ e in cc found
past m bytes k x xs e later false test = later (sym (ap (λ b. if b then Some k else decoded_from m bytes (suc k) xs) test) ∙ e)

-- where none is found none matches
none_matches : (m : Machine) (bytes : List ℕ) (k : ℕ) (is : List Insn) (j : ℕ) (i : Insn) → decoded_from m bytes k is ≡ None → slice_get is j ≡ Some i → (i.decodable && matches m i bytes) ≡ true → ⊥
none_matches m bytes k [] j i e at both = cc
none_matches m bytes k (x ∷ xs) zero i e at both =
    let same : x ≡ i = cc in
    let here : (x.decodable && matches m x bytes) ≡ true = subst (λ y. (y.decodable && matches m y bytes) ≡ true) (sym same) both in
    let found : Some k ≡ None = sym (ap (λ b. if b then Some k else decoded_from m bytes (suc k) xs) here) ∙ e in
    cc found
none_matches m bytes k (x ∷ xs) (suc j) i e at both = past m bytes k x xs e (λ later. none_matches m bytes (suc k) xs j i later at both) (x.decodable && matches m x bytes) refl

pub decoded_alone : (m : Machine) (bytes : List ℕ) (r : Option ℕ) → IsSound m → NoClash m → AreBytes bytes → decoded_to m bytes ≡ r → MatchOption r (NoMatch m bytes) (λ k. Decodes m bytes k)
decoded_alone m bytes None sound clear are e = record { none = λ k x. none_matches m bytes 0 m.insns k x.insn e x.within (and_from x.insn.decodable (matches m x.insn bytes) x.decodable x.matching) }
decoded_alone m bytes (Some k) sound clear are e =
    let x : IsMatch m bytes k = first_matches m bytes 0 m.insns k (from_zero m) e in
    record { is_match = x; alone = λ j y. only m j k bytes sound clear are y x }
