-- The bits of a number that bytes spell, by byte and place in the byte.
use Rattle.std.proofs.Common.{◌≡◌, ℕ, zero, suc, ◌+◌, ◌-◌, ◌*◌, ◌/◌, ◌%◌, ◌^◌, ◌<◌, ◌≤◌, List, slice_index, drop, sym, ap, ◌∙◌, refl, subst, inl, inr, arith}
use Rattle.std.specs.Int.{bit_at}
use Rattle.std.proofs.lemmas.Nat.{pow-add}
use Rattle.std.proofs.lemmas.Nat.Bits.{bit_at_cat_low, bit_at_cat_high}
use Rattle.std.proofs.lemmas.Bool.{cases_lt}
use Rattle.std.proofs.lemmas.List.{get_or-drop}
use Rattle.std.proofs.Math.Nat.{pow-suc}
use Rattle.byteorder.specs.Endian.{big_from, little_from, big_number}
use Rattle.byteorder.specs.Numbers.{big_from-lt}
use Rattle.cg_base.specs.declared.mode.Endian.{Endian}
use Rattle.cg_base.specs.declared.mode.Endian.TheVariants.{Big, Little}
use Rattle.cg_base.specs.Bytes.{number_of}
use Rattle.cg_model.specs.Clashing.{AreBytes}
use Rattle.cg_code_mask.specs.View.{turned_place}

pub bytes_power : (n : ℕ) → 256 ^ n ≡ 2 ^ (8 * n)
bytes_power zero = refl
bytes_power (suc n) =
    let e : 8 * suc n ≡ 8 * n + 8 = omega arith in
    pow-suc 256 n ∙ ap (λ x. x * 256) (bytes_power n) ∙ sym (pow-add 2 (8 * n) 8) ∙ ap (λ k. 2 ^ k) (sym e)

-- bit q of a number that is read big end first
pub big_bit : (n i q : ℕ) (xs : List ℕ) → AreBytes xs → q < 8 * n → bit_at (big_from i n xs) q ≡ bit_at (slice_index xs (i + (n - 1 - q / 8))) (q % 8)
big_bit zero i q xs h below = absurd (omega arith)
big_bit (suc n) i q xs h below =
    let x : ℕ = slice_index xs i in
    let rest : ℕ = big_from (suc i) n xs in
    let power : x * 256 ^ n + rest ≡ x * 2 ^ (8 * n) + rest = ap (λ p. x * p + rest) (bytes_power n) in
    let small : rest < 2 ^ (8 * n) = subst (λ p. rest < p) (bytes_power n) (big_from-lt (suc i) n xs h.below) in
    ap (λ y. bit_at y q) power
    ∙ elim (cases_lt q (8 * n)) [
      | inl lt ↦
          let at : suc i + (n - 1 - q / 8) ≡ i + (suc n - 1 - q / 8) = omega arith in
          bit_at_cat_low x (8 * n) rest q lt ∙ big_bit n (suc i) q xs h lt ∙ ap (λ k. bit_at (slice_index xs k) (q % 8)) at
      | inr ge ↦
          let at : i ≡ i + (suc n - 1 - q / 8) = omega arith in
          let low : q - 8 * n ≡ q % 8 = omega arith in
          bit_at_cat_high x (8 * n) rest q small ge ∙ ap (bit_at x) low ∙ ap (λ k. bit_at (slice_index xs k) (q % 8)) at
    ]

-- bit q of a number that is read little end first
pub little_bit : (n i q : ℕ) (xs : List ℕ) → AreBytes xs → q < 8 * n → bit_at (little_from i n xs) q ≡ bit_at (slice_index xs (i + q / 8)) (q % 8)
little_bit zero i q xs h below = absurd (omega arith)
little_bit (suc n) i q xs h below =
    let x : ℕ = slice_index xs i in
    let rest : ℕ = little_from (suc i) n xs in
    let order : x + 256 * rest ≡ rest * 2 ^ 8 + x = omega arith in
    ap (λ y. bit_at y q) order
    ∙ elim (cases_lt q 8) [
      | inl lt ↦
          let at : i ≡ i + q / 8 = omega arith in
          let low : q ≡ q % 8 = omega arith in
          bit_at_cat_low rest 8 x q lt ∙ ap (bit_at x) low ∙ ap (λ k. bit_at (slice_index xs k) (q % 8)) at
      | inr ge ↦
          let at : suc i + (q - 8) / 8 ≡ i + q / 8 = omega arith in
          let low : (q - 8) % 8 ≡ q % 8 = omega arith in
          bit_at_cat_high rest 8 x q (h.below i) ge ∙ little_bit n (suc i) (q - 8) xs h (omega arith)
          ∙ ap (bit_at (slice_index xs (suc i + (q - 8) / 8))) low ∙ ap (λ k. bit_at (slice_index xs k) (q % 8)) at
    ]

pub turned_below : (e : Endian) (n p : ℕ) → p < 8 * n → turned_place e n p < 8 * n
turned_below Big n p h = h
turned_below Little n p h = omega arith

-- to turn twice is to stay
pub turned_back : (e : Endian) (n p : ℕ) → p < 8 * n → turned_place e n (turned_place e n p) ≡ p
turned_back Big n p h = refl
turned_back Little n p h = omega arith

-- a word's bits are those of the same bytes read big end first, each at its turned place
pub turned_bit : (e : Endian) (n p : ℕ) (xs : List ℕ) → AreBytes xs → p < 8 * n → bit_at (number_of e n xs) p ≡ bit_at (big_number n xs) (turned_place e n p)
turned_bit Big n p xs h below = refl
turned_bit Little n p xs h below =
    let q : ℕ = 8 * (n - 1 - p / 8) + p % 8 in
    let at : p / 8 ≡ n - 1 - q / 8 = omega arith in
    let low : p % 8 ≡ q % 8 = omega arith in
    little_bit n 0 p xs h below
    ∙ ap (λ k. bit_at (slice_index xs (0 + p / 8)) k) low
    ∙ ap (λ k. bit_at (slice_index xs (0 + k)) (q % 8)) at
    ∙ sym (big_bit n 0 q xs h (turned_below Little n p below))

-- a part of the bytes is a part of the bits
pub part_bit : (o n r : ℕ) (xs : List ℕ) → AreBytes xs → o + n ≤ 16 → r < 8 * n → bit_at (big_number n (drop o xs)) r ≡ bit_at (big_number 16 xs) (8 * (16 - o - n) + r)
part_bit o n r xs h inside below =
    let q : ℕ = 8 * (16 - o - n) + r in
    let rest : AreBytes (drop o xs) = record { below = λ k. subst (λ x. x < 256) (sym (get_or-drop o xs k 0)) (h.below (o + k)) } in
    let at : o + (0 + (n - 1 - r / 8)) ≡ 0 + (16 - 1 - q / 8) = omega arith in
    let low : r % 8 ≡ q % 8 = omega arith in
    big_bit n 0 r (drop o xs) rest below
    ∙ ap (λ y. bit_at y (r % 8)) (get_or-drop o xs (0 + (n - 1 - r / 8)) 0)
    ∙ ap (λ k. bit_at (slice_index xs k) (r % 8)) at
    ∙ ap (bit_at (slice_index xs (0 + (16 - 1 - q / 8)))) low
    ∙ sym (big_bit 16 0 q xs h (omega arith))
