-- Bytes and the numbers that they are.
use Rattle.std.proofs.Common.{◌≡◌, ℕ, zero, suc, ◌+◌, ◌-◌, ◌*◌, ◌/◌, ◌%◌, ◌^◌, ◌<◌, ◌≤◌, List, [], length, take, slice_index, get_or, sym, ap, ◌∙◌, refl, subst, inl, inr, arith, append-nil, length-take}
use Rattle.std.proofs.lemmas.Nat.{shl_whole}
use Rattle.std.specs.Int.{w8, bit_at, bytes_high_first}
use Rattle.std.proofs.lemmas.Nat.{mul-le, pow-add, div-add-mod'}
use Rattle.std.proofs.Math.Nat.{one-le-pow}
use Rattle.std.proofs.lemmas.Nat.Bits.{bit_at_cat_low, bit_at-zero, same_from_bits_below}
use Rattle.std.proofs.lemmas.Bool.{cases_lt}
use Rattle.std.proofs.lemmas.List.{get_or-take, get_or_past}
use Rattle.std.proofs.Math.Nat.{mod-eq_of_lt}
use mir.Val.{Fits}
use Rattle.byteorder.specs.Endian.{big_from, big_number}
use Rattle.byteorder.specs.Numbers.{big_from-lt, big_from-bytes, length-bytes_high_first}
use Rattle.cg_base.specs.declared.mode.Endian.TheVariants.{Big}
use Rattle.cg_code_mask.specs.View.{whole, bytes_of_whole}
use Rattle.cg_model.specs.Clashing.{AreBytes}
use Rattle.cg_code_mask.proofs.WordBits.{big_bit, bytes_power}
use Rattle.cg_code_mask.proofs.Masks.{are_bytes}

pub are_whole_bytes : (w : ℕ) → AreBytes (bytes_of_whole w)
unfolding bytes_of_whole
are_whole_bytes w = are_bytes Big 16 w

pub length_whole : (w : ℕ) → length (bytes_of_whole w) ≡ 16
unfolding bytes_of_whole
length_whole w = length-bytes_high_first 16 w

-- the whole of the lowest 16 bytes of a number
pub whole_back : (w : ℕ) → whole (bytes_of_whole w) ≡ w % 2 ^ 128
unfolding whole bytes_of_whole
whole_back w = ap (big_number 16) (sym (append-nil (bytes_high_first 16 w))) ∙ big_from-bytes 16 w [] ∙ ap (λ p. w % p) (bytes_power 16)

pub whole_fits : (bytes : List ℕ) → AreBytes bytes → whole bytes < 2 ^ 128
unfolding whole
whole_fits bytes h = subst (λ p. big_number 16 bytes < p) (bytes_power 16) (big_from-lt 0 16 bytes h.below)

pub front_bytes : (n : ℕ) (bytes : List ℕ) → AreBytes bytes → AreBytes (take n bytes)
front_bytes n bytes h = record {
  below = λ k. elim (cases_lt k n) [
    | inl lt ↦ subst (λ x. x < 256) (sym (get_or-take n bytes k 0 lt)) (h.below k)
    | inr ge ↦ let past : get_or (take n bytes) k 0 ≡ 0 = get_or_past (take n bytes) k 0 (omega (arith, length-take n bytes)) in omega (arith, past)
  ];
}

-- a bit of the whole
pub whole_bit : (bytes : List ℕ) (q : ℕ) → AreBytes bytes → q < 128 → bit_at (whole bytes) q ≡ bit_at (slice_index bytes (15 - q / 8)) (q % 8)
unfolding whole
whole_bit bytes q h below = let at : 0 + (15 - q / 8) ≡ 15 - q / 8 = omega arith in big_bit 16 0 q bytes h (omega arith) ∙ ap (λ k. bit_at (slice_index bytes k) (q % 8)) at

-- a multiple of 2 ^ k has no bit below place k
pub low_bit : (w k q : ℕ) → w % 2 ^ k ≡ 0 → q < k → bit_at w q ≡ 0
low_bit w k q e below =
    sym (ap (λ x. bit_at x q) (div-add-mod' w (2 ^ k))) ∙ bit_at_cat_low (w / 2 ^ k) k (w % 2 ^ k) q below ∙ ap (λ x. bit_at x q) e ∙ bit_at-zero q

-- what is cut from the end of the bytes is 0
pub whole_of_front : (n w : ℕ) → n ≤ 16 → w < 2 ^ 128 → w % 2 ^ (8 * (16 - n)) ≡ 0 → whole (take n (bytes_of_whole w)) ≡ w
whole_of_front n w few fits low =
    let all : List ℕ = bytes_of_whole w in
    let h : AreBytes all = are_whole_bytes w in
    let k : AreBytes (take n all) = front_bytes n all h in
    let back : whole all ≡ w = whole_back w ∙ mod-eq_of_lt fits in
    same_from_bits_below 128 _ _ (whole_fits (take n all) k) fits (λ q below.
    whole_bit (take n all) q k below
    ∙ elim (cases_lt (15 - q / 8) n) [
      | inl lt ↦ ap (λ x. bit_at x (q % 8)) (get_or-take n all (15 - q / 8) 0 lt) ∙ sym (whole_bit all q h below) ∙ ap (λ x. bit_at x q) back
      | inr ge ↦
          ap (λ x. bit_at x (q % 8)) (get_or_past (take n all) (15 - q / 8) 0 (omega (arith, length-take n all)))
          ∙ bit_at-zero (q % 8) ∙ sym (low_bit w (8 * (16 - n)) q low (omega arith))
    ])

-- bytes that are short have a whole that is a multiple
pub whole_of_short : (bytes : List ℕ) (n : ℕ) → AreBytes bytes → length bytes ≤ n → n ≤ 16 → (q : ℕ) → q < 8 * (16 - n) → bit_at (whole bytes) q ≡ 0
whole_of_short bytes n h short few q below =
    whole_bit bytes q h (omega arith) ∙ ap (λ x. bit_at x (q % 8)) (get_or_past bytes (15 - q / 8) 0 (omega arith)) ∙ bit_at-zero (q % 8)

spread_out : (x a b y z : ℕ) → x * (a * b) + (y * b + z) ≡ (x * a + y) * b + z
spread_out x a b y z = omega arith

-- bytes past the end of a list, and bytes of 0, count as nothing
zero_from : (n i : ℕ) (bytes : List ℕ) → length bytes ≤ i → big_from i n bytes ≡ 0
zero_from zero i bytes past = refl
zero_from (suc n) i bytes past =
    let here : slice_index bytes i ≡ 0 = get_or_past bytes i 0 past in
    let rest : big_from (suc i) n bytes ≡ 0 = zero_from n (suc i) bytes (omega arith) in
    ap (λ x. x * 256 ^ n + big_from (suc i) n bytes) here ∙ omega (arith, rest)

split_from : (n k i : ℕ) (bytes : List ℕ) → big_from i (n + k) bytes ≡ big_from i n bytes * 256 ^ k + big_from (i + n) k bytes
split_from zero k i bytes =
    let one : zero + k ≡ k = omega arith in
    let two : i ≡ i + zero = omega arith in
    let three : big_from (i + zero) k bytes ≡ 0 * 256 ^ k + big_from (i + zero) k bytes = omega arith in
    ap (λ j. big_from i j bytes) one ∙ ap (λ j. big_from j k bytes) two ∙ three
split_from (suc n) k i bytes =
    let x : ℕ = slice_index bytes i in
    let one : suc n + k ≡ suc (n + k) = omega arith in
    let rest : big_from (suc i) (n + k) bytes ≡ big_from (suc i) n bytes * 256 ^ k + big_from (suc i + n) k bytes = split_from n k (suc i) bytes in
    let place : suc i + n ≡ i + suc n = omega arith in
    let power : 256 ^ (n + k) ≡ 256 ^ n * 256 ^ k = pow-add 256 n k in
    ap (λ j. big_from i j bytes) one
    ∙ ap (λ y. x * 256 ^ (n + k) + y) (rest ∙ ap (λ j. big_from (suc i) n bytes * 256 ^ k + big_from j k bytes) place)
    ∙ ap (λ p. x * p + (big_from (suc i) n bytes * 256 ^ k + big_from (i + suc n) k bytes)) power
    ∙ spread_out x (256 ^ n) (256 ^ k) (big_from (suc i) n bytes) (big_from (i + suc n) k bytes)

-- the whole of n bytes is their own number, and zeros
pub whole_of_number : (n : ℕ) (bytes : List ℕ) → length bytes ≡ n → n ≤ 16 → whole bytes ≡ big_number n bytes * 256 ^ (16 - n)
unfolding whole
whole_of_number n bytes long few =
    let e : 16 ≡ n + (16 - n) = omega arith in
    let rest : big_from (0 + n) (16 - n) bytes ≡ 0 = zero_from (16 - n) (0 + n) bytes (omega arith) in
    ap (λ j. big_from 0 j bytes) e ∙ split_from n (16 - n) 0 bytes ∙ omega (arith, rest)

-- bytes of one length compare by their wholes as by their numbers
pub number_order : (n : ℕ) (xs ys : List ℕ) → length xs ≡ n → length ys ≡ n → n ≤ 16 → whole xs ≤ whole ys → big_number n xs ≤ big_number n ys
number_order n xs ys e f few h =
    let p : ℕ = 256 ^ (16 - n) in
    let some : 0 < p = one-le-pow (16 - n) 256 (omega arith) in
    elim (cases_lt (big_number n ys) (big_number n xs)) [
      | inr le ↦ le
      | inl lt ↦
          let less : (big_number n ys + 1) * p ≤ big_number n xs * p = mul-le (big_number n ys + 1) p (big_number n xs) p (omega arith) (omega arith) in
          absurd (omega (arith, less, whole_of_number n xs e few, whole_of_number n ys f few, h))
    ]

-- behind the bytes of a number that are asked for there are zeros
pub zeros_behind : (n w k : ℕ) → w < 2 ^ 128 → w % 2 ^ (8 * (16 - n)) ≡ 0 → n ≤ k → k < 16 → slice_index (bytes_of_whole w) k ≡ 0
zeros_behind n w k fits low behind below =
    let all : List ℕ = bytes_of_whole w in
    let h : AreBytes all = are_whole_bytes w in
    same_from_bits_below 8 _ _ (h.below k) (omega arith) (λ t small.
    let q : ℕ = 8 * (15 - k) + t in
    let at : k ≡ 15 - q / 8 = omega arith in
    let bit : t ≡ q % 8 = omega arith in
    ap (λ j. bit_at (slice_index all j) t) at ∙ ap (bit_at (slice_index all (15 - q / 8))) bit
    ∙ sym (whole_bit all q h (omega arith)) ∙ ap (λ x. bit_at x q) (whole_back w ∙ mod-eq_of_lt fits) ∙ low_bit w (8 * (16 - n)) q low (omega arith) ∙ sym (bit_at-zero t))

-- code that reads n bytes and shifts them to the front
pub read_front : (n x : ℕ) (bytes : List ℕ) → ((k : ℕ) → Fits w8 (get_or bytes k 0)) → length bytes ≡ n → n ≤ 16 → x ≡ big_number n bytes → x * 2 ^ (8 * (16 - n)) % 2 ^ 128 ≡ whole bytes
read_front n x bytes fits long few is =
    let small : big_number n bytes < 2 ^ (8 * n) = subst (λ p. big_number n bytes < p) (bytes_power n) (big_from-lt 0 n bytes (λ k. (fits k).fits)) in
    ap (λ y. y * 2 ^ (8 * (16 - n)) % 2 ^ 128) is
    ∙ shl_whole (big_number n bytes) (8 * n) (8 * (16 - n)) 128 small (omega arith)
    ∙ ap (λ p. big_number n bytes * p) (sym (bytes_power (16 - n)))
    ∙ sym (whole_of_number n bytes long few)

pub nothing_read : (bytes : List ℕ) → length bytes ≡ 0 → 0 ≡ whole bytes
nothing_read bytes none = let e : big_number 0 bytes * 256 ^ (16 - 0) ≡ 0 = omega arith in sym (whole_of_number 0 bytes none (omega arith) ∙ e)
