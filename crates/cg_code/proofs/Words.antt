-- How code sets some bits of a word.
use Rattle.std.proofs.Common.{◌≡◌, ℕ, ◌+◌, ◌-◌, ◌*◌, ◌/◌, ◌%◌, ◌^◌, ◌<◌, ◌≤◌, sym, ap, ◌∙◌, subst, arith}
use Rattle.std.proofs.lemmas.Nat.{pow_pos, pow-add, mod_below, div_below, mul-add-lt, shr_split, shl_whole, one_shl}
use Rattle.std.proofs.Math.Nat.{mod-eq_of_lt, pow-le-pow_right}
use Rattle.cg_model.specs.declared.field.Field.{Field}
use Rattle.cg_model.specs.Covers.{IsInWord}
use Rattle.cg_model.specs.Encoding.{word_with}
use Rattle.cg_code_mask.proofs.WordBits.{bytes_power}

-- a word has 64 bits at most
word_fits : (f : Field) (w : ℕ) → IsInWord f → w < 256 ^ (f.word_bits / 8) → w < 2 ^ f.word_bits
word_fits f w at h = let e : 8 * (f.word_bits / 8) ≡ f.word_bits = sym at.bytes in subst (λ k. w < 2 ^ k) e (subst (λ p. w < p) (bytes_power (f.word_bits / 8)) h)

pub above_whole : (f : Field) (w : ℕ) → IsInWord f → w < 2 ^ 64 → w / 2 ^ (f.shift + f.length) * 2 ^ (f.shift + f.length) % 2 ^ 128 ≡ w / 2 ^ (f.shift + f.length) * 2 ^ (f.shift + f.length)
above_whole f w at h = mod-eq_of_lt (omega (arith, shr_split w (f.shift + f.length)))

pub own_whole : (f : Field) (n : ℕ) → IsInWord f → n < 2 ^ f.length → n * 2 ^ f.shift % 2 ^ 128 ≡ n * 2 ^ f.shift
own_whole f n at h = shl_whole n f.length f.shift 128 h (omega (arith, at.within, at.few))

pub low_whole : (f : Field) (w : ℕ) → IsInWord f → w % (1 * 2 ^ f.shift % 2 ^ 128) ≡ w % 2 ^ f.shift
low_whole f w at = ap (λ p. w % p) (one_shl f.shift 128 (omega (arith, at.within, at.few, at.own)))

-- the field's bits and those below it
own_below : (f : Field) (n w : ℕ) → n < 2 ^ f.length → n * 2 ^ f.shift + w % 2 ^ f.shift < 2 ^ (f.shift + f.length)
own_below f n w h = subst (λ p. n * 2 ^ f.shift + w % 2 ^ f.shift < p) (sym (pow-add 2 f.shift f.length)) (mul-add-lt n (2 ^ f.shift) (w % 2 ^ f.shift) (2 ^ f.length) h (mod_below w (2 ^ f.shift) (pow_pos f.shift)))

-- a word that was set is a word
pub set_below : (f : Field) (n w : ℕ) → IsInWord f → n < 2 ^ f.length → w < 256 ^ (f.word_bits / 8) → word_with f n w < 2 ^ f.word_bits
set_below f n w at h k =
    let top : ℕ = f.shift + f.length in
    let rest : ℕ = f.word_bits - top in
    let split : top + rest ≡ f.word_bits = omega (arith, at.within) in
    let power : 2 ^ top * 2 ^ rest ≡ 2 ^ f.word_bits = sym (pow-add 2 top rest) ∙ ap (λ j. 2 ^ j) split in
    let order : 2 ^ rest * 2 ^ top ≡ 2 ^ top * 2 ^ rest = omega arith in
    let inside : w < 2 ^ rest * 2 ^ top = omega (arith, word_fits f w at k, power, order) in
    let high : w / 2 ^ top < 2 ^ rest = div_below w (2 ^ top) (2 ^ rest) (pow_pos top) inside in
    let all : w / 2 ^ top * 2 ^ top + (n * 2 ^ f.shift + w % 2 ^ f.shift) < 2 ^ top * 2 ^ rest = mul-add-lt (w / 2 ^ top) (2 ^ top) (n * 2 ^ f.shift + w % 2 ^ f.shift) (2 ^ rest) high (own_below f n w h) in
    omega (arith, all, power)

pub set_fits : (f : Field) (n w : ℕ) → IsInWord f → n < 2 ^ f.length → w < 256 ^ (f.word_bits / 8) → word_with f n w < 256 ^ (f.word_bits / 8)
set_fits f n w at h k = subst (λ p. word_with f n w < p) (sym (bytes_power (f.word_bits / 8))) (let e : f.word_bits ≡ 8 * (f.word_bits / 8) = at.bytes in subst (λ j. word_with f n w < 2 ^ j) e (set_below f n w at h k))

pub set_small : (f : Field) (n w : ℕ) → IsInWord f → n < 2 ^ f.length → w < 256 ^ (f.word_bits / 8) → word_with f n w < 2 ^ 64
set_small f n w at h k = let le : 2 ^ f.word_bits ≤ 2 ^ 64 = pow-le-pow_right {n = 2} (omega arith) {i = f.word_bits} {j = 64} at.few in omega (arith, le, set_below f n w at h k)

-- what code gives
pub set_as : (f : Field) (n w a b c : ℕ) → IsInWord f → n < 2 ^ f.length → w < 256 ^ (f.word_bits / 8)
    → a ≡ w / 2 ^ (f.shift + f.length) * 2 ^ (f.shift + f.length) → b ≡ n * 2 ^ f.shift → c ≡ w % 2 ^ f.shift → (a + b + c) % 2 ^ 64 ≡ word_with f n w
set_as f n w a b c at h k ea eb ec =
    let same : a + b + c ≡ word_with f n w = omega (arith, ea, eb, ec) in
    ap (λ x. x % 2 ^ 64) same ∙ mod-eq_of_lt (set_small f n w at h k)

pub ruleset words = (above_whole, own_whole, low_whole, set_small, set_fits)
