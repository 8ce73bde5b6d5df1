-- What a field's bits are in the whole.
use Rattle.std.proofs.Common.{◌≡◌, ℕ, ◌+◌, ◌*◌, ◌/◌, ◌%◌, ◌^◌, ◌<◌, ◌≤◌, bit_and, List, drop, sym, ap, ◌∙◌, refl, subst, arith}
use Rattle.std.specs.Int.{bit_at}
use Rattle.std.proofs.lemmas.Nat.{pow_pos, mod_below, shr-shr, shl_below, shr_split, shl-shr}
use Rattle.std.proofs.lemmas.Nat.Bits.{and_high, bit_at_cat_low}
use Rattle.std.proofs.lemmas.List.{get_or-drop}
use Rattle.std.proofs.Math.Nat.{mod-eq_of_lt, pow-le-pow_right}
use Rattle.byteorder.specs.Numbers.{big_from-lt, little_from-lt}
use Rattle.cg_base.specs.declared.mode.Endian.{Endian}
use Rattle.cg_base.specs.declared.mode.Endian.TheVariants.{Big, Little}
use Rattle.cg_base.specs.Bytes.{number_of}
use Rattle.cg_model.specs.declared.field.Field.{Field}
use Rattle.cg_model.specs.declared.machine.Machine.{Machine}
use Rattle.cg_model.specs.Fields.{word_of, bits_at}
use Rattle.cg_code_mask.specs.View.{whole, turned_place, place, placed}
use Rattle.cg_model.specs.Clashing.{AreBytes}
use Rattle.cg_model.specs.Covers.{IsPlaced, turned, behind, ones_from, cover_of}
use Rattle.cg_code_mask.proofs.WordBits.{bytes_power, turned_below, turned_bit, part_bit}
use Rattle.cg_code_mask.proofs.Masks.{and_of_whole, and_of_word, spread_inside, turned_number_bit}

rest_of : (bytes : List ℕ) (o : ℕ) → AreBytes bytes → AreBytes (drop o bytes)
rest_of bytes o h = record { below = λ k. subst (λ x. x < 256) (sym (get_or-drop o bytes k 0)) (h.below (o + k)) }

number_fits : (e : Endian) (n : ℕ) (bytes : List ℕ) → AreBytes bytes → number_of e n bytes < 2 ^ (8 * n)
number_fits Big n bytes h = subst (λ p. number_of Big n bytes < p) (bytes_power n) (big_from-lt 0 n bytes h.below)
number_fits Little n bytes h = subst (λ p. number_of Little n bytes < p) (bytes_power n) (little_from-lt 0 n bytes h.below)

pub word_fits : (m : Machine) (f : Field) (bytes : List ℕ) → AreBytes bytes → word_of m f bytes < 2 ^ (8 * (f.word_bits / 8))
word_fits m f bytes h = number_fits m.insn_endian (f.word_bits / 8) (drop (f.word_offset / 8) bytes) (rest_of bytes (f.word_offset / 8) h)

-- the word's bits in the whole
pub word_bit : (m : Machine) (f : Field) (bytes : List ℕ) (p : ℕ) → IsPlaced f → AreBytes bytes → p < 8 * (f.word_bits / 8)
    → bit_at (word_of m f bytes) p ≡ bit_at (whole bytes) (behind f + turned_place m.insn_endian (f.word_bits / 8) p)
unfolding whole
word_bit m f bytes p placed h below =
    let o : ℕ = f.word_offset / 8 in
    let n : ℕ = f.word_bits / 8 in
    turned_bit m.insn_endian n p (drop o bytes) (rest_of bytes o h) below
    ∙ part_bit o n (turned_place m.insn_endian n p) bytes h (omega (arith, placed.inside)) (turned_below m.insn_endian n p below)

-- a field's bits are those of the whole at the field's places
pub field_bit : (m : Machine) (f : Field) (bytes : List ℕ) (t : ℕ) → IsPlaced f → AreBytes bytes → t < f.length → bit_at (bits_at m f bytes) t ≡ bit_at (whole bytes) (place m f t)
field_bit m f bytes t placed h below =
    let w : ℕ = word_of m f bytes in
    let cat : (w / 2 ^ f.shift) / 2 ^ f.length * 2 ^ f.length + (w / 2 ^ f.shift) % 2 ^ f.length ≡ w / 2 ^ f.shift = shr_split (w / 2 ^ f.shift) f.length in
    sym (bit_at_cat_low ((w / 2 ^ f.shift) / 2 ^ f.length) f.length (bits_at m f bytes) t below)
    ∙ ap (λ x. bit_at x t) cat
    ∙ ap (λ x. x % 2) (shr-shr w f.shift t)
    ∙ word_bit m f bytes (f.shift + t) placed h (omega (arith, placed.within, placed.bytes))

-- the mask of a field's bits in its word, and a number put there
ones_fit : (f : Field) → IsPlaced f → ones_from f.shift f.length < 2 ^ (8 * (f.word_bits / 8))
ones_fit f placed =
    let le : 2 ^ (f.length + f.shift) ≤ 2 ^ (8 * (f.word_bits / 8)) = pow-le-pow_right (omega arith) (omega (arith, placed.within, placed.bytes)) in
    omega (arith, le, pow_pos f.shift, pow_pos (f.length + f.shift))

shifted_fits : (f : Field) (v : ℕ) → IsPlaced f → v < 2 ^ f.length → v * 2 ^ f.shift < 2 ^ (8 * (f.word_bits / 8))
shifted_fits f v placed fits =
    let le : 2 ^ (f.length + f.shift) ≤ 2 ^ (8 * (f.word_bits / 8)) = pow-le-pow_right (omega arith) (omega (arith, placed.within, placed.bytes)) in
    omega (arith, le, shl_below v f.length f.shift fits)

-- a constant stands in its field exactly where the whole, under the field's mask, is the constant at its place
pub stands_in_whole : (m : Machine) (f : Field) (bytes : List ℕ) (v : ℕ) → IsPlaced f → AreBytes bytes → v < 2 ^ f.length → bits_at m f bytes ≡ v → bit_and (whole bytes) (cover_of m f) ≡ placed m f v
stands_in_whole m f bytes v at h fits same =
    and_of_whole m.insn_endian (f.word_bits / 8) (behind f) (whole bytes) (word_of m f bytes) (ones_from f.shift f.length) (v * 2 ^ f.shift)
    (word_fits m f bytes h) (ones_fit f at) (shifted_fits f v at fits) (λ p below. word_bit m f bytes p at h below)
    (and_high (word_of m f bytes) f.length f.shift ∙ ap (λ x. x * 2 ^ f.shift) same)

pub stands_in_field : (m : Machine) (f : Field) (bytes : List ℕ) (v : ℕ) → IsPlaced f → AreBytes bytes → v < 2 ^ f.length → bit_and (whole bytes) (cover_of m f) ≡ placed m f v → bits_at m f bytes ≡ v
stands_in_field m f bytes v at h fits same =
    let word : bit_and (word_of m f bytes) (ones_from f.shift f.length) ≡ v * 2 ^ f.shift =
    and_of_word m.insn_endian (f.word_bits / 8) (behind f) (whole bytes) (word_of m f bytes) (ones_from f.shift f.length) (v * 2 ^ f.shift)
    (word_fits m f bytes h) (ones_fit f at) (shifted_fits f v at fits) (λ p below. word_bit m f bytes p at h below) same in
    let both : bits_at m f bytes * 2 ^ f.shift ≡ v * 2 ^ f.shift = sym (and_high (word_of m f bytes) f.length f.shift) ∙ word in
    sym (shl-shr (bits_at m f bytes) f.shift) ∙ ap (λ x. x / 2 ^ f.shift) both ∙ shl-shr v f.shift

-- a number at its place is bits of the field's mask
pub placed_inside : (m : Machine) (f : Field) (v : ℕ) → IsPlaced f → v < 2 ^ f.length → bit_and (placed m f v) (cover_of m f) ≡ placed m f v
placed_inside m f v at fits =
    let e : Endian = m.insn_endian in
    let n : ℕ = f.word_bits / 8 in
    let word : ℕ = v * 2 ^ f.shift in
    let small : word < 2 ^ (8 * n) = shifted_fits f v at fits in
    and_of_whole e n (behind f) (placed m f v) word (ones_from f.shift f.length) word small (ones_fit f at) small
    (λ p below. sym (spread_inside (behind f) n (turned e n word) (turned_place e n p) ∙ turned_number_bit e n word p small below))
    (and_high word f.length f.shift ∙ ap (λ x. x % 2 ^ f.length * 2 ^ f.shift) (shl-shr v f.shift) ∙ ap (λ x. x * 2 ^ f.shift) (mod-eq_of_lt fits))

-- fields of which the whole shows the same have the same bits
pub same_bits : (m : Machine) (f : Field) (xs ys : List ℕ) → IsPlaced f → AreBytes xs → AreBytes ys → bit_and (whole xs) (cover_of m f) ≡ bit_and (whole ys) (cover_of m f) → bits_at m f xs ≡ bits_at m f ys
same_bits m f xs ys at h k same =
    let fits : bits_at m f ys < 2 ^ f.length = mod_below (word_of m f ys / 2 ^ f.shift) (2 ^ f.length) (pow_pos f.length) in
    stands_in_field m f xs (bits_at m f ys) at h fits (same ∙ stands_in_whole m f ys (bits_at m f ys) at k fits refl)
