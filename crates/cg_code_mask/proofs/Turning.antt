-- How code makes the mask of a field.
use Rattle.std.proofs.Common.{◌≡◌, ℕ, ◌+◌, ◌-◌, ◌*◌, ◌/◌, ◌%◌, ◌^◌, ◌<◌, ◌≤◌, List, ◌++◌, length, take, drop, sym, ap, ◌∙◌, subst, arith}
use Rattle.std.proofs.lemmas.Nat.{pow-add, pow_pos, shl_below, shl_whole, one_shl}
use Rattle.std.proofs.Math.Nat.{pow-le-pow_right}
use Rattle.byteorder.specs.Endian.{big_number}
use Rattle.byteorder.specs.Numbers.{big_from-append, length-bytes_high_first, length-bytes_low_first}
use Rattle.cg_base.specs.declared.mode.Endian.{Endian}
use Rattle.cg_base.specs.declared.mode.Endian.TheVariants.{Big, Little}
use Rattle.cg_base.specs.Bytes.{bytes_of, number_of}
use Rattle.cg_model.specs.declared.field.Field.{Field}
use Rattle.cg_model.specs.Covers.{IsPlaced, turned, behind, ones_from}
use Rattle.cg_code_mask.proofs.WordBits.{bytes_power}
use Rattle.cg_code_mask.proofs.Masks.{turned_fits}

length_of : (e : Endian) (n x : ℕ) → length (bytes_of e n x) ≡ n
length_of Big n x = length-bytes_high_first n x
length_of Little n x = length-bytes_low_first 0 n x

-- what was put in front is read there
pub read_turned : (e : Endian) (n x : ℕ) (old rest bytes : List ℕ) → bytes ≡ (take 0 old ++ bytes_of e n x) ++ rest → number_of Big n (drop 0 bytes) ≡ turned e n x
read_turned e n x old rest bytes same = ap (big_number n) same ∙ big_from-append n (bytes_of e n x) rest (omega (arith, length_of e n x))

pub fits_bytes : (n x : ℕ) → x < 2 ^ (8 * n) → x < 256 ^ n
fits_bytes n x h = subst (λ p. x < p) (sym (bytes_power n)) h

pub small_number : (n x : ℕ) → x < 256 ^ n → x < 2 ^ (8 * n)
small_number n x h = subst (λ p. x < p) (bytes_power n) h

-- a word shifted to its place loses no bit
pub shifted_whole : (f : Field) (x y : ℕ) → IsPlaced f → x ≡ y → x < 2 ^ (8 * (f.word_bits / 8)) → (x * 2 ^ behind f) % 2 ^ 128 ≡ y * 2 ^ behind f
shifted_whole f x y at same small = shl_whole x (8 * (f.word_bits / 8)) (behind f) 128 small (omega (arith, at.inside, at.few)) ∙ ap (λ z. z * 2 ^ behind f) same

-- all ones but the lowest
less_one : (y s p : ℕ) → (y + 1) * s ≡ p → y * s ≡ p - s
less_one y s p e = omega (arith, e)

pub ones_word : (f : Field) → IsPlaced f → ((1 * 2 ^ f.length % 2 ^ 128 - 1) * 2 ^ f.shift) % 2 ^ 128 ≡ ones_from f.shift f.length
ones_word f at =
    let x : ℕ = 2 ^ f.length - 1 in
    let one : 1 * 2 ^ f.length % 2 ^ 128 ≡ 2 ^ f.length = one_shl f.length 128 (omega (arith, at.within, at.few)) in
    let small : x < 2 ^ f.length = omega (arith, pow_pos f.length) in
    let again : x + 1 ≡ 2 ^ f.length = omega (arith, pow_pos f.length) in
    ap (λ z. ((z - 1) * 2 ^ f.shift) % 2 ^ 128) one
    ∙ shl_whole x f.length f.shift 128 small (omega (arith, at.within, at.few))
    ∙ less_one x (2 ^ f.shift) (2 ^ (f.length + f.shift)) (ap (λ z. z * 2 ^ f.shift) again ∙ sym (pow-add 2 f.length f.shift))

pub ones_fit : (f : Field) → IsPlaced f → ones_from f.shift f.length < 2 ^ (8 * (f.word_bits / 8))
ones_fit f at =
    let le : 2 ^ (f.length + f.shift) ≤ 2 ^ (8 * (f.word_bits / 8)) = pow-le-pow_right (omega arith) (omega (arith, at.within, at.bytes)) in
    omega (arith, le, pow_pos f.shift, pow_pos (f.length + f.shift))

pub ones_fit_word : (f : Field) → IsPlaced f → ones_from f.shift f.length < 2 ^ 64
ones_fit_word f at =
    let le : 2 ^ (f.length + f.shift) ≤ 2 ^ 64 = pow-le-pow_right {n = 2} (omega arith) {i = f.length + f.shift} {j = 64} (omega (arith, at.within, at.few)) in
    omega (arith, le, pow_pos f.shift, pow_pos (f.length + f.shift))

pub value_shifted : (f : Field) (v : ℕ) → IsPlaced f → v < 2 ^ f.length → (v * 2 ^ f.shift) % 2 ^ 64 ≡ v * 2 ^ f.shift
value_shifted f v at h = shl_whole v f.length f.shift 64 h (omega (arith, at.within, at.few))

pub shifted_fits : (f : Field) (v : ℕ) → IsPlaced f → v < 2 ^ f.length → v * 2 ^ f.shift < 2 ^ (8 * (f.word_bits / 8))
shifted_fits f v at fits =
    let le : 2 ^ (f.length + f.shift) ≤ 2 ^ (8 * (f.word_bits / 8)) = pow-le-pow_right (omega arith) (omega (arith, at.within, at.bytes)) in
    omega (arith, le, shl_below v f.length f.shift fits)

pub ruleset turning = (read_turned, turned_fits)

pub ruleset spreading = (shifted_whole)

pub ruleset ones = (ones_word, ones_fit_word)

pub ruleset masks = (ones_fit, value_shifted, shifted_fits)
