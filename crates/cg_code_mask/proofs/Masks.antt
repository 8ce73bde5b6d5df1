-- A field's bits in the whole, and its mask.
use Rattle.std.proofs.Common.{◌≡◌, ℕ, zero, suc, ◌+◌, ◌-◌, ◌*◌, ◌/◌, ◌^◌, ◌<◌, ◌≤◌, min, bit_and, [], slice_index, sym, ap, ◌∙◌, subst, inl, inr, arith}
use Rattle.std.specs.Int.{bit_at, byte_at, bytes_high_first, bytes_low_first}
use Rattle.std.proofs.lemmas.Nat.{pow_pos, mod_below, shl_below, and_le_r}
use Rattle.std.proofs.lemmas.Nat.Bits.{bit_at_cat_low, bit_at_cat_high, bit_at_above, bit_at-zero, bit_at_and, bit_at-lt, same_from_bits, same_from_bits_below}
use Rattle.std.proofs.lemmas.Bool.{cases_lt}
use Rattle.std.proofs.lemmas.List.{append-nil}
use Rattle.byteorder.specs.Endian.{big_number}
use Rattle.byteorder.specs.Numbers.{big_from-lt, big_number-reads_back, little_number-reads_back}
use Rattle.cg_base.specs.declared.mode.Endian.{Endian}
use Rattle.cg_base.specs.declared.mode.Endian.TheVariants.{Big, Little}
use Rattle.cg_base.specs.Bytes.{number_of, bytes_of}
use Rattle.cg_model.specs.Clashing.{AreBytes}
use Rattle.cg_code_mask.specs.View.{turned_place}
use Rattle.cg_model.specs.Covers.{turned}
use Rattle.cg_code_mask.proofs.WordBits.{bytes_power, turned_below, turned_back, turned_bit}

-- the bytes of a number are bytes
byte_below : (i x : ℕ) → byte_at i x < 256
byte_below zero x = mod_below x 256 (omega arith)
byte_below (suc i) x = mod_below (x / 256 ^ suc i) 256 (omega arith)

high_below : (n x k : ℕ) → slice_index (bytes_high_first n x) k < 256
high_below zero x k = omega arith
high_below (suc n) x zero = byte_below n x
high_below (suc n) x (suc k) = high_below n x k

low_below : (n i x k : ℕ) → slice_index (bytes_low_first i n x) k < 256
low_below zero i x k = omega arith
low_below (suc n) i x zero = byte_below i x
low_below (suc n) i x (suc k) = low_below n (suc i) x k

pub are_bytes : (e : Endian) (n x : ℕ) → AreBytes (bytes_of e n x)
are_bytes Big n x = record { below = high_below n x }
are_bytes Little n x = record { below = low_below n 0 x }

reads_back : (e : Endian) (n x : ℕ) → x < 256 ^ n → number_of e n (bytes_of e n x) ≡ x
reads_back Big n x fits = ap (big_number n) (sym (append-nil (bytes_high_first n x))) ∙ big_number-reads_back n x [] fits
reads_back Little n x fits = ap (number_of Little n) (sym (append-nil (bytes_low_first 0 n x))) ∙ little_number-reads_back n x [] fits

pub turned_fits : (e : Endian) (n x : ℕ) → turned e n x < 2 ^ (8 * n)
turned_fits e n x = subst (λ p. turned e n x < p) (bytes_power n) (big_from-lt 0 n (bytes_of e n x) (are_bytes e n x).below)

-- bit p of a number stands at its turned place
pub turned_number_bit : (e : Endian) (n x p : ℕ) → x < 2 ^ (8 * n) → p < 8 * n → bit_at (turned e n x) (turned_place e n p) ≡ bit_at x p
turned_number_bit e n x p fits below =
    sym (turned_bit e n p (bytes_of e n x) (are_bytes e n x) below)
    ∙ ap (λ y. bit_at y p) (reads_back e n x (subst (λ q. x < q) (sym (bytes_power n)) fits))

-- the whole of 16 bytes in which a word is x: a bit of x at its place, and 0 outside of the word
pub spread_inside : (base k x r : ℕ) → bit_at (x * 2 ^ base) (base + r) ≡ bit_at x r
spread_inside base k x r =
    let e : x * 2 ^ base ≡ x * 2 ^ base + 0 = omega arith in
    let at : base + r - base ≡ r = omega arith in
    ap (λ y. bit_at y (base + r)) e ∙ bit_at_cat_high x base 0 (base + r) (pow_pos base) (omega arith) ∙ ap (bit_at x) at

pub spread_below : (base x q : ℕ) → q < base → bit_at (x * 2 ^ base) q ≡ 0
spread_below base x q h =
    let e : x * 2 ^ base ≡ x * 2 ^ base + 0 = omega arith in
    ap (λ y. bit_at y q) e ∙ bit_at_cat_low x base 0 q h ∙ bit_at-zero q

pub spread_above : (base n x q : ℕ) → x < 2 ^ n → base + n ≤ q → bit_at (x * 2 ^ base) q ≡ 0
spread_above base n x q fits h =
    bit_at_above (x * 2 ^ base) (n + base) q (shl_below x n base fits) (omega arith)

-- where the bits of a whole agree with those of a word, an `&` of the one is an `&` of the other
pub and_of_whole : (e : Endian) (n base w word a b : ℕ) → word < 2 ^ (8 * n) → a < 2 ^ (8 * n) → b < 2 ^ (8 * n)
    → ((p : ℕ) → p < 8 * n → bit_at word p ≡ bit_at w (base + turned_place e n p))
    → bit_and word a ≡ b → bit_and w (turned e n a * 2 ^ base) ≡ turned e n b * 2 ^ base
and_of_whole e n base w word a b fw fa fb agree same = same_from_bits _ _ (λ q. bit_at_and w (turned e n a * 2 ^ base) q ∙
    elim (cases_lt q base) [
      | inl lt ↦ omega (arith, spread_below base (turned e n a) q lt, spread_below base (turned e n b) q lt, bit_at-lt w q)
      | inr ge ↦ elim (cases_lt q (base + 8 * n)) [
        | inr past ↦ omega (arith, spread_above base (8 * n) (turned e n a) q (turned_fits e n a) past, spread_above base (8 * n) (turned e n b) q (turned_fits e n b) past, bit_at-lt w q)
        | inl within ↦
            let p : ℕ = turned_place e n (q - base) in
            let below : p < 8 * n = turned_below e n (q - base) (omega arith) in
            let back : turned_place e n p ≡ q - base = turned_back e n (q - base) (omega arith) in
            let at : base + turned_place e n p ≡ q = omega (arith, back) in
            let one : bit_at (turned e n a * 2 ^ base) q ≡ bit_at a p = ap (bit_at (turned e n a * 2 ^ base)) (sym at) ∙ spread_inside base n (turned e n a) (turned_place e n p) ∙ turned_number_bit e n a p fa below in
            let two : bit_at (turned e n b * 2 ^ base) q ≡ bit_at b p = ap (bit_at (turned e n b * 2 ^ base)) (sym at) ∙ spread_inside base n (turned e n b) (turned_place e n p) ∙ turned_number_bit e n b p fb below in
            let three : bit_at w q ≡ bit_at word p = ap (bit_at w) (sym at) ∙ sym (agree p below) in
            ap (λ x. min x (bit_at (turned e n a * 2 ^ base) q)) three ∙ ap (min (bit_at word p)) one ∙ sym (bit_at_and word a p) ∙ ap (λ x. bit_at x p) same ∙ sym two
      ]
    ])

-- and the other way round
pub and_of_word : (e : Endian) (n base w word a b : ℕ) → word < 2 ^ (8 * n) → a < 2 ^ (8 * n) → b < 2 ^ (8 * n)
    → ((p : ℕ) → p < 8 * n → bit_at word p ≡ bit_at w (base + turned_place e n p))
    → bit_and w (turned e n a * 2 ^ base) ≡ turned e n b * 2 ^ base → bit_and word a ≡ b
and_of_word e n base w word a b fw fa fb agree same = same_from_bits_below (8 * n) _ _ (omega (arith, and_le_r word a)) fb (λ p below.
    let q : ℕ = base + turned_place e n p in
    let one : bit_at (turned e n a * 2 ^ base) q ≡ bit_at a p = spread_inside base n (turned e n a) (turned_place e n p) ∙ turned_number_bit e n a p fa below in
    let two : bit_at (turned e n b * 2 ^ base) q ≡ bit_at b p = spread_inside base n (turned e n b) (turned_place e n p) ∙ turned_number_bit e n b p fb below in
    bit_at_and word a p ∙ ap (λ x. min x (bit_at a p)) (agree p below) ∙ ap (min (bit_at w q)) (sym one) ∙ sym (bit_at_and w (turned e n a * 2 ^ base) q) ∙ ap (λ x. bit_at x q) same ∙ two)
