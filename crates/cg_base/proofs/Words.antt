-- How words of 64 bits hold numbers of fewer bits.
use Rattle.std.proofs.Common.{◌≡◌, ◌≢◌, ℕ, suc, ◌+◌, ◌-◌, ◌*◌, ◌/◌, ◌%◌, ◌^◌, ◌<◌, ◌≤◌, Bool, true, false, cond, ◌||◌, ◌==◌, nat_lt, ◌⊎◌, inl, inr, ℤ, pos, negsuc, neg_ℤ, ◌+ℤ◌, ◌-ℤ◌, ◌≤ℤ◌, zero, mul_assoc, refl, sym, ap, subst, ◌∙◌, arith}
use Rattle.std.specs.Prelude.{bit_and, bit_or, unsigned_abs, FitsSigned, int_div, int_lt}
use Rattle.std.specs.Int.{cast_unsigned, cast_signed, int_wrapping_div, w64, w128}
use Rattle.std.proofs.lemmas.Int.{ints, int_rem_euclid_is, of_z-to_z, to_z-of_z}
use Rattle.std.proofs.lemmas.Nat.{pow_pos, pow-add, and_mask, shr_split, mod_below, div_below, mod_low, one_shl, shl_whole, shr_below, or_shifted, mul-add-lt}
use Rattle.std.proofs.Math.Facts.{sfits_to_z}
use Rattle.std.proofs.Math.Nat.{div-le_self, mod-eq_of_lt, div-eq_of_lt, mod-one, div-one}
use Rattle.std.proofs.Math.Pow.{pow_mono}
use Rattle.std.proofs.lemmas.Bool.Decides.{nat_tests}
use Rattle.std.proofs.lemmas.Nat.Bits.{ones_shr}
use Rattle.cg_base.specs.Operations.{wrapped, as_signed, rotated, overflows}

-- the mask of the lowest k bits
pub lowest_bits : (k n : ℕ) → 1 ≤ k → k ≤ 64 → bit_and n (18446744073709551615 / 2 ^ (64 - k)) ≡ n % 2 ^ k
lowest_bits k n some few =
    let e : 64 - (64 - k) ≡ k = omega arith in
    ap (bit_and n) (ones_shr 64 (64 - k) (omega arith) ∙ ap (λ j. 2 ^ j - 1) e) ∙ and_mask n k

-- 2 ^ 64 is a multiple of 2 ^ k
word : (k : ℕ) → k ≤ 64 → 2 ^ (64 - k) * 2 ^ k ≡ 2 ^ 64
word k few =
    let e : (64 - k) + k ≡ 64 = omega arith in
    sym (pow-add 2 (64 - k) k) ∙ ap (λ j. 2 ^ j) e

-- what is left of a multiple of p
split : (t q r p n : ℕ) → q * p + r ≡ n → r < p → (t + 1 + q) * p - suc n ≡ t * p + (p - 1 - r)
split t q r p n e below = omega arith

-- counted down from a multiple of 2 ^ k
complement : (k n m : ℕ) → n < m * 2 ^ k → (m * 2 ^ k - suc n) % 2 ^ k ≡ 2 ^ k - 1 - n % 2 ^ k
complement k n m h =
    let below = div_below n (2 ^ k) m (pow_pos k) h in
    let rest = mod_below n (2 ^ k) (pow_pos k) in
    let e : m ≡ (m - 1 - n / 2 ^ k) + 1 + n / 2 ^ k = omega arith in
    ap (λ x. (x * 2 ^ k - suc n) % 2 ^ k) e
    ∙ ap (λ x. x % 2 ^ k) (split (m - 1 - n / 2 ^ k) (n / 2 ^ k) (n % 2 ^ k) (2 ^ k) n (shr_split n k) rest)
    ∙ mod_low (m - 1 - n / 2 ^ k) k (2 ^ k - 1 - n % 2 ^ k) (omega arith)

-- the lowest bits of the word that holds a number are the number modulo 2 ^ k
pub wrapped_bits : (k : ℕ) (z : ℤ) → k ≤ 64 → unsigned_abs z ≤ 2 ^ 64 → cast_unsigned w64 z % 2 ^ k ≡ wrapped k z
wrapped_bits k (pos n) few fits = refl
wrapped_bits k (negsuc n) few fits =
    ap (λ m. (m - suc n) % 2 ^ k) (sym (word k few)) ∙ complement k n (2 ^ (64 - k)) (omega (arith, word k few))

pub wrapped_cast : (k : ℕ) (z : ℤ) → k ≤ 64 → FitsSigned w64 z → cast_unsigned w64 z % 2 ^ k ≡ wrapped k z
wrapped_cast k z few fits = wrapped_bits k z few (omega (arith, ints))

-- a multiple more
more : (k m n : ℕ) → (m * 2 ^ k + n) % 2 ^ k ≡ n % 2 ^ k
more k m n =
    let e : m * 2 ^ k + n ≡ (m + n / 2 ^ k) * 2 ^ k + n % 2 ^ k = omega (arith, shr_split n k) in
    ap (λ x. x % 2 ^ k) e ∙ mod_low (m + n / 2 ^ k) k (n % 2 ^ k) (mod_below n (2 ^ k) (pow_pos k))

-- n and r differ by a multiple of 2 ^ 64
lowest_in : (k n r q : ℕ) → k ≤ 64 → q * 2 ^ 64 + r ≡ n → r % 2 ^ k ≡ n % 2 ^ k
lowest_in k n r q few e =
    let f : q * 2 ^ 64 ≡ q * 2 ^ (64 - k) * 2 ^ k = ap (λ x. q * x) (sym (word k few)) ∙ sym (mul_assoc q (2 ^ (64 - k)) (2 ^ k)) in
    sym (more k (q * 2 ^ (64 - k)) r) ∙ ap (λ x. (x + r) % 2 ^ k) (sym f) ∙ ap (λ x. x % 2 ^ k) e

pub lowest_of_lowest : (k n : ℕ) → k ≤ 64 → n % 2 ^ 64 % 2 ^ k ≡ n % 2 ^ k
lowest_of_lowest k n few = lowest_in k n (n % 2 ^ 64) (n / 2 ^ 64) few (shr_split n 64)

-- a sum that was cut to a word on the way
folded : (m c : ℕ) → (m / 2 ^ 64 + (m % 2 ^ 64 + c) / 2 ^ 64) * 2 ^ 64 + (m % 2 ^ 64 + c) % 2 ^ 64 ≡ m + c
folded m c = omega (arith, shr_split m 64, shr_split (m % 2 ^ 64 + c) 64)

lowest_of_two : (k m c : ℕ) → k ≤ 64 → (m % 2 ^ 64 + c) % 2 ^ 64 % 2 ^ k ≡ (m + c) % 2 ^ k
lowest_of_two k m c few = lowest_in k (m + c) ((m % 2 ^ 64 + c) % 2 ^ 64) (m / 2 ^ 64 + (m % 2 ^ 64 + c) / 2 ^ 64) few (folded m c)

pub lowest_of_sum : (k a b c : ℕ) → k ≤ 64 → ((a + b) % 2 ^ 64 + c) % 2 ^ 64 % 2 ^ k ≡ (a + b + c) % 2 ^ k
lowest_of_sum k a b c few = lowest_of_two k (a + b) c few

-- what differs from z by a multiple of 2 ^ k
wrapped_is : (k q m : ℕ) (z : ℤ) → z +ℤ pos (q * 2 ^ k) ≡ pos m → wrapped k z ≡ m % 2 ^ k
wrapped_is k q m z e = ap unsigned_abs (int_rem_euclid_is z (pos (2 ^ k)) (2 ^ k) q m (pow_pos k) refl e)

pub lowest_of_difference : (k a b c : ℕ) → k ≤ 64 → b < 2 ^ 64 → c < 2 ^ 64 → ((a + (2 ^ 64 - b)) % 2 ^ 64 + (2 ^ 64 - c)) % 2 ^ 64 % 2 ^ k ≡ wrapped k (pos a -ℤ pos (b + c))
lowest_of_difference k a b c few fb fc =
    lowest_of_two k (a + (2 ^ 64 - b)) (2 ^ 64 - c) few
    ∙ sym (wrapped_is k (2 * 2 ^ (64 - k)) (a + (2 ^ 64 - b) + (2 ^ 64 - c)) (pos a -ℤ pos (b + c)) (omega (arith, ints, word k few)))

-- a number whose highest bit is a sign, read through 128 bits
high_read : (k a h p : ℕ) → h ≤ a → a < p → p ≡ h + h → h ≤ 2 ^ 63
    → cast_signed w64 (cast_unsigned w64 (cast_signed w128 (cast_unsigned w128 (cast_signed w128 a -ℤ cast_signed w128 p)))) ≡ pos a -ℤ pos p
high_read k a h p low high e few = omega (arith, ints)

doubled : (k : ℕ) → 1 ≤ k → 2 ^ k ≡ 2 ^ (k - 1) + 2 ^ (k - 1)
doubled k some =
    let e : (k - 1) + 1 ≡ k = omega arith in
    ap (λ j. 2 ^ j) (sym e) ∙ pow-add 2 (k - 1) 1 ∙ omega arith

as_signed-high : (k a : ℕ) → k ≢ 1 → 2 ^ (k - 1) ≤ a → as_signed k a ≡ pos a -ℤ pos (2 ^ k)
as_signed-high k a two high = grind (arith, nat_tests)

pub read_as_signed : (k a : ℕ) → 1 ≤ k → k ≤ 64 → k ≢ 1 → 1 * 2 ^ (k - 1) % 2 ^ 64 ≤ a → a < 2 ^ k
    → cast_signed w64 (cast_unsigned w64 (cast_signed w128 (cast_unsigned w128 (cast_signed w128 a -ℤ cast_signed w128 (1 * 2 ^ k % 2 ^ 128))))) ≡ as_signed k a
read_as_signed k a some few two high fits =
    let e = one_shl (k - 1) 64 (omega arith) in
    let f = one_shl k 128 (omega arith) in
    let h : 2 ^ (k - 1) ≤ a = omega arith in
    ap (λ p. cast_signed w64 (cast_unsigned w64 (cast_signed w128 (cast_unsigned w128 (cast_signed w128 a -ℤ cast_signed w128 p))))) f
    ∙ high_read k a (2 ^ (k - 1)) (2 ^ k) h fits (doubled k some) (pow_mono {i = k - 1} {j = 63} (omega arith))
    ∙ sym (as_signed-high k a two h)

-- a number that was cast to a word and back
wrapped_again : (k : ℕ) (z : ℤ) → k ≤ 64 → unsigned_abs z ≤ 2 ^ 63 → cast_unsigned w64 z < 2 ^ 64 → wrapped k (cast_signed w64 (cast_unsigned w64 z)) ≡ wrapped k z
wrapped_again k z few small fits =
    sym (wrapped_cast k (cast_signed w64 (cast_unsigned w64 z)) few (sfits_to_z {w = w64} (record { fits = fits })))
    ∙ ap (λ x. x % 2 ^ k) (of_z-to_z w64 (cast_unsigned w64 z) fits)
    ∙ wrapped_bits k z few (omega arith)

-- a number of 64 bits with a sign fits a word
word_of : (z : ℤ) → unsigned_abs z ≤ 2 ^ 63 → cast_unsigned w64 z < 2 ^ 64
word_of (pos n) h = omega arith
word_of (negsuc n) h = omega arith

-- the size of a quotient
unsigned_abs-neg : (n : ℕ) → unsigned_abs (neg_ℤ (pos n)) ≡ n
unsigned_abs-neg zero = refl
unsigned_abs-neg (suc n) = refl

unsigned_abs-div : (s t : ℤ) → unsigned_abs (int_div s t) ≤ unsigned_abs s
unsigned_abs-div (pos a) (pos b) = div-le_self a b
unsigned_abs-div (pos a) (negsuc b) = rw unsigned_abs-neg (div-le_self a (suc b))
unsigned_abs-div (negsuc a) (pos b) = rw unsigned_abs-neg (div-le_self (suc a) b)
unsigned_abs-div (negsuc a) (negsuc b) = div-le_self (suc a) (suc b)

unsigned_abs-fits : (s : ℤ) → FitsSigned w64 s → unsigned_abs s ≤ 2 ^ 63
unsigned_abs-fits (pos n) h = omega (arith, h.sfits)
unsigned_abs-fits (negsuc n) h = omega (arith, h.sfits)

pub wrapped_quotient : (k : ℕ) (s t : ℤ) → k ≤ 64 → FitsSigned w64 s → wrapped k (int_wrapping_div w64 s t) ≡ wrapped k (int_div s t)
wrapped_quotient k s t few fits =
    let small : unsigned_abs (int_div s t) ≤ 2 ^ 63 = omega (arith, unsigned_abs-div s t, unsigned_abs-fits s fits) in
    wrapped_again k (int_div s t) few small (word_of (int_div s t) small)

-- the quotient as the code has it
pub divided : (k r : ℕ) (s t q : ℤ) → k ≤ 64 → FitsSigned w64 s → FitsSigned w64 t → FitsSigned w64 q
    → q ≡ int_wrapping_div w64 (cast_signed w64 (cast_unsigned w64 s)) (cast_signed w64 (cast_unsigned w64 t)) → r ≡ wrapped k (cast_signed w64 (cast_unsigned w64 q)) → r ≡ wrapped k (int_div s t)
divided k r s t q few f g h e d =
    d ∙ ap (wrapped k) (to_z-of_z w64 q h ∙ e ∙ ap (λ x. int_wrapping_div w64 x (cast_signed w64 (cast_unsigned w64 t))) (to_z-of_z w64 s f) ∙ ap (int_wrapping_div w64 s) (to_z-of_z w64 t g))
    ∙ wrapped_quotient k s t few f

-- a choice is one of the two
one_of : {A : Type 0} (t : Bool) (x y : A) → (cond t x y ≡ x) ⊎ (cond t x y ≡ y)
one_of t x y = elim t as (λ v. (cond v x y ≡ x) ⊎ (cond v x y ≡ y)) [ true ↦ inl refl | false ↦ inr refl ]

-- a difference below 0
below_zero : (b p : ℕ) → b < p → pos b -ℤ pos p ≡ negsuc (p - 1 - b)
below_zero b p h = omega (arith, ints)

pub read_not_zero : (k b : ℕ) → 1 ≤ k → k ≤ 64 → b < 2 ^ k → 0 < b → 0 < cast_unsigned w64 (as_signed k b)
read_not_zero k b some few fits more =
    let P : ℤ → Type 0 = λ z. 0 < cast_unsigned w64 z in
    let most = pow_mono {i = k} {j = 64} few in
    elim (one_of (k == 1 || nat_lt b (2 ^ (k - 1))) (pos b) (pos b -ℤ pos (2 ^ k))) [
      | inl e ↦ subst P (sym e) more
      | inr e ↦ subst P (sym (e ∙ below_zero b (2 ^ k) fits)) (omega arith)
    ]

-- no bit goes, or all
rotated_none : (k a : ℕ) → a < 2 ^ k → rotated k 0 a ≡ a
rotated_none k a fits =
    let e : k - 0 ≡ k = omega arith in
    rw (e, mod-eq_of_lt fits, div-eq_of_lt fits) (omega arith)

rotated_whole : (k a : ℕ) → rotated k k a ≡ a
rotated_whole k a =
    let e : k - k ≡ 0 = omega arith in
    ap (λ j. (a % 2 ^ j) * 2 ^ k + a / 2 ^ j) e ∙ rw (mod-one, div-one) (omega arith)

pub rotated_ends : (k n a : ℕ) → a < 2 ^ k → (n ≡ 0) ⊎ ((n ≡ 0 → ⊥) × (n ≡ k)) → a ≡ rotated k n a
rotated_ends k n a fits (inl e) = sym (ap (λ x. rotated k x a) e ∙ rotated_none k a fits)
rotated_ends k n a fits (inr e) = sym (ap (λ x. rotated k x a) e.1 ∙ rotated_whole k a)

-- the two parts joined by `|`
pub rotated_parts : (k n a : ℕ) → 1 ≤ k → k ≤ 64 → n < k → a < 2 ^ k → bit_or (a % 2 ^ (k - n) * 2 ^ n % 2 ^ 64) (a / 2 ^ (k - n)) ≡ rotated k n a
rotated_parts k n a some few within fits =
    let e : n + (k - n) ≡ k = omega arith in
    let low = mod_below a (2 ^ (k - n)) (pow_pos (k - n)) in
    let high = shr_below a n (k - n) (rw e fits) in
    ap (λ x. bit_or x (a / 2 ^ (k - n))) (shl_whole (a % 2 ^ (k - n)) (k - n) n 64 low (omega arith))
    ∙ or_shifted (a % 2 ^ (k - n)) n (a / 2 ^ (k - n)) high

pub rotated_fits : (k n a : ℕ) → n ≤ k → a < 2 ^ k → rotated k n a < 2 ^ k
rotated_fits k n a within fits =
    let e : n + (k - n) ≡ k = omega arith in
    let low = mod_below a (2 ^ (k - n)) (pow_pos (k - n)) in
    let high = shr_below a n (k - n) (rw e fits) in
    let g : 2 ^ n * 2 ^ (k - n) ≡ 2 ^ k = sym (pow-add 2 n (k - n)) ∙ ap (λ j. 2 ^ j) e in
    rw (← g) (mul-add-lt (a % 2 ^ (k - n)) (2 ^ n) (a / 2 ^ (k - n)) (2 ^ (k - n)) low high)

-- not too low: then only the greatest number matters
pub overflows_high : (k : ℕ) (z : ℤ) → k ≢ 1 → neg_ℤ (pos (2 ^ (k - 1))) ≤ℤ z → int_lt (pos (2 ^ (k - 1) - 1)) z ≡ overflows k z
overflows_high k z two low =
    let e : int_lt z (neg_ℤ (pos (2 ^ (k - 1)))) ≡ false = grind (arith, ints) in
    grind (arith, nat_tests)

pub overflows_read : (k : ℕ) (z : ℤ) → 1 ≤ k → k ≤ 64 → k ≢ 1 → FitsSigned w128 z → neg_ℤ (pos (1 * 2 ^ (k - 1) % 2 ^ 128)) ≤ℤ z
    → int_lt (cast_signed w128 (cast_unsigned w128 (cast_signed w128 (1 * 2 ^ (k - 1) % 2 ^ 128) -ℤ pos 1))) (cast_signed w128 (cast_unsigned w128 z)) ≡ overflows k z
overflows_read k z some few two fits low =
    let e = one_shl (k - 1) 128 (omega arith) in
    let most = pow_mono {i = k - 1} {j = 63} (omega arith) in
    let least = pow_pos (k - 1) in
    let f : cast_signed w128 (cast_unsigned w128 (cast_signed w128 (2 ^ (k - 1)) -ℤ pos 1)) ≡ pos (2 ^ (k - 1) - 1) = omega (arith, ints) in
    ap (λ p. int_lt (cast_signed w128 (cast_unsigned w128 (cast_signed w128 p -ℤ pos 1))) (cast_signed w128 (cast_unsigned w128 z))) e
    ∙ ap (λ x. int_lt x (cast_signed w128 (cast_unsigned w128 z))) f
    ∙ ap (int_lt (pos (2 ^ (k - 1) - 1))) (to_z-of_z w128 z fits)
    ∙ overflows_high k z two (rw e at low)
