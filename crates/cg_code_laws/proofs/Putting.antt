-- A field that is set in bytes is set in their whole.
use Rattle.std.proofs.Common.{◌≡◌, ℕ, ◌+◌, ◌-◌, ◌*◌, ◌/◌, ◌%◌, ◌^◌, ◌<◌, ◌≤◌, max, Bool, true, nat_le, if◌then◌else◌, List, ◌++◌, length, take, drop, slice_index, sym, ap, ◌∙◌, refl, subst, ◌⊎◌, inl, inr, arith, length-take, length-append}
use Rattle.std.specs.Int.{bit_at}
use Rattle.std.proofs.lemmas.Bool.{cases_lt}
use Rattle.std.proofs.lemmas.Bool.Decides.{nat_tests}
use Rattle.std.proofs.lemmas.Nat.{pow_pos, pow-add, mod_below, shl_below, or_lt, xor_lt, div-add-mod'}
use Rattle.std.proofs.lemmas.Nat.Bits.{bit_at_or, bit_at_xor, bit_at-lt, bit_at-zero, bit_at_above, bit_at_cat_low, bit_at_cat_high, bit_at_mask_inside, bit_at_mask_below, bit_at_mask_above, same_from_bits, same_from_bits_below}
use Rattle.std.proofs.lemmas.List.{get_or_append_left, get_or-take, get_or-drop, append_assoc, length-drop}
use Rattle.std.proofs.Math.Seq.{get_or-append_right, drop-append_seam}
use Rattle.std.proofs.Math.Nat.{pow-le-pow_right}
use Rattle.byteorder.specs.Numbers.{big_number-reads_back, little_number-reads_back, length-bytes_high_first, length-bytes_low_first}
use Rattle.cg_base.specs.declared.mode.Endian.{Endian}
use Rattle.cg_base.specs.declared.mode.Endian.TheVariants.{Big, Little}
use Rattle.cg_base.specs.Bytes.{number_of, bytes_of}
use Rattle.cg_model.specs.Clashing.{AreBytes}
use Rattle.cg_model.specs.Covers.{IsInWord, IsPlaced, turned, behind, ones_from, cover_of}
use Rattle.cg_model.specs.Encoding.{word_with, with_word, with_bits}
use Rattle.cg_model.specs.Fields.{word_of}
use Rattle.cg_model.specs.declared.field.Field.{Field}
use Rattle.cg_model.specs.declared.machine.Machine.{Machine}
use Rattle.cg_code.proofs.Words.{set_fits}
use Rattle.cg_code_mask.specs.View.{whole, turned_place, placed, with_set, with_field}
use Rattle.cg_code_mask.proofs.FieldLaws.{word_bit, word_fits}
use Rattle.cg_code_mask.proofs.Masks.{are_bytes, turned_fits, turned_number_bit, spread_inside, spread_below, spread_above}
use Rattle.cg_code_mask.proofs.Wholes.{whole_bit, whole_fits}
use Rattle.cg_code_mask.proofs.WordBits.{bytes_power, turned_below, turned_back}

-- one bit of a put
set_bit : (c v w q : ℕ) → bit_at (with_set c v w) q ≡ max ((max (bit_at w q) (bit_at c q) + bit_at c q) % 2) (bit_at v q)
set_bit c v w q = simp (bit_at_or, bit_at_xor) refl

-- where nothing is put, a bit stays; where something is, it is what is put
stays : (c v w q : ℕ) → bit_at c q ≡ 0 → bit_at v q ≡ 0 → bit_at (with_set c v w) q ≡ bit_at w q
stays c v w q e f = omega (arith, set_bit c v w q, e, f, bit_at-lt w q)

comes : (c v w q : ℕ) → bit_at c q ≡ 1 → bit_at (with_set c v w) q ≡ bit_at v q
comes c v w q e = omega (arith, set_bit c v w q, e, bit_at-lt w q, bit_at-lt v q)

spread_out : (x a b n z : ℕ) → x * (a * b) + n * b + z ≡ (x * a + n) * b + z
spread_out x a b n z = omega arith

-- the low bits of a number and its high bits
low_same : (w k q : ℕ) → q < k → bit_at (w % 2 ^ k) q ≡ bit_at w q
low_same w k q h = sym (bit_at_cat_low (w / 2 ^ k) k (w % 2 ^ k) q h) ∙ ap (λ x. bit_at x q) (div-add-mod' w (2 ^ k))

high_same : (w k q : ℕ) → k ≤ q → bit_at (w / 2 ^ k) (q - k) ≡ bit_at w q
high_same w k q h = sym (bit_at_cat_high (w / 2 ^ k) k (w % 2 ^ k) q (mod_below w (2 ^ k) (pow_pos k)) h) ∙ ap (λ x. bit_at x q) (div-add-mod' w (2 ^ k))

-- a word in which a field is set
word_is_set : (f : Field) (n w : ℕ) → n < 2 ^ f.length → word_with f n w ≡ with_set (ones_from f.shift f.length) (n * 2 ^ f.shift) w
word_is_set f n w fits =
    let s : ℕ = f.shift in
    let l : ℕ = f.length in
    let power : 2 ^ (s + l) ≡ 2 ^ l * 2 ^ s = let e : s + l ≡ l + s = omega arith in ap (λ k. 2 ^ k) e ∙ pow-add 2 l s in
    let above : ℕ = w / 2 ^ (s + l) in
    let low : ℕ = w % 2 ^ s in
    let below : low < 2 ^ s = mod_below w (2 ^ s) (pow_pos s) in
    let own : n * 2 ^ s ≡ n * 2 ^ s + 0 = omega arith in
    let joined : word_with f n w ≡ (above * 2 ^ l + n) * 2 ^ s + low = ap (λ p. above * p + n * 2 ^ s + low) power ∙ spread_out above (2 ^ l) (2 ^ s) n low in
    same_from_bits _ _ (λ q. ap (λ x. bit_at x q) joined ∙ elim (cases_lt q s) [
      | inl lt ↦
          bit_at_cat_low (above * 2 ^ l + n) s low q lt ∙ low_same w s q lt
          ∙ sym (stays (ones_from s l) (n * 2 ^ s) w q (bit_at_mask_below s (l + s) q lt) (ap (λ x. bit_at x q) own ∙ bit_at_cat_low n s 0 q lt ∙ bit_at-zero q))
      | inr ge ↦ bit_at_cat_high (above * 2 ^ l + n) s low q below ge ∙ elim (cases_lt q (s + l)) [
        | inl inside ↦
            bit_at_cat_low above l n (q - s) (omega arith)
            ∙ sym (comes (ones_from s l) (n * 2 ^ s) w q (bit_at_mask_inside s (l + s) q ge (omega arith))
            ∙ ap (λ x. bit_at x q) own ∙ bit_at_cat_high n s 0 q (pow_pos s) ge)
        | inr past ↦
            bit_at_cat_high above l n (q - s) fits (omega arith)
            ∙ (let at : q - s - l ≡ q - (s + l) = omega arith in ap (bit_at above) at)
            ∙ high_same w (s + l) q past
            ∙ sym (stays (ones_from s l) (n * 2 ^ s) w q (bit_at_mask_above s (l + s) q (omega arith))
            (bit_at_above (n * 2 ^ s) (l + s) q (shl_below n l s fits) (omega arith)))
      ]
    ])

-- the bytes in front of a word, the word's, and those behind
length_of_word : (e : Endian) (n x : ℕ) → length (bytes_of e n x) ≡ n
length_of_word Big n x = length-bytes_high_first n x
length_of_word Little n x = length-bytes_low_first 0 n x

read_word : (e : Endian) (n x : ℕ) (rest : List ℕ) → x < 256 ^ n → number_of e n (bytes_of e n x ++ rest) ≡ x
read_word Big n x rest fits = big_number-reads_back n x rest fits
read_word Little n x rest fits = little_number-reads_back n x rest fits

-- a list in which a part is put in place of another as long
put_length : (o n : ℕ) (bytes part : List ℕ) → o + n ≤ length bytes → length part ≡ n → length ((take o bytes ++ part) ++ drop (o + n) bytes) ≡ length bytes
put_length o n bytes part inside long =
    length-append (take o bytes ++ part) (drop (o + n) bytes) ∙ ap (λ k. k + length (drop (o + n) bytes)) (length-append (take o bytes) part)
    ∙ omega (arith, length-take o bytes, long, length-drop (o + n) bytes)

front_stays : (o n k : ℕ) (bytes part : List ℕ) → o + n ≤ length bytes → k < o → slice_index ((take o bytes ++ part) ++ drop (o + n) bytes) k ≡ slice_index bytes k
front_stays o n k bytes part inside below =
    let long : length (take o bytes) ≡ o = omega (arith, length-take o bytes) in
    get_or_append_left (take o bytes ++ part) (drop (o + n) bytes) 0 k (omega (arith, length-append (take o bytes) part, long))
    ∙ get_or_append_left (take o bytes) part 0 k (omega (arith, long)) ∙ get_or-take o bytes k 0 below

back_stays : (o n k : ℕ) (bytes part : List ℕ) → o + n ≤ length bytes → length part ≡ n → o + n ≤ k → slice_index ((take o bytes ++ part) ++ drop (o + n) bytes) k ≡ slice_index bytes k
back_stays o n k bytes part inside same past =
    let front : length (take o bytes ++ part) ≡ o + n = length-append (take o bytes) part ∙ omega (arith, length-take o bytes, same) in
    let at : o + n + (k - (o + n)) ≡ k = omega arith in
    get_or-append_right (take o bytes ++ part) (drop (o + n) bytes) k 0 (omega (arith, front))
    ∙ ap (λ j. slice_index (drop (o + n) bytes) (k - j)) front ∙ get_or-drop (o + n) bytes (k - (o + n)) 0 ∙ ap (slice_index bytes) at

part_there : (o n : ℕ) (bytes part : List ℕ) → o ≤ length bytes → drop o ((take o bytes ++ part) ++ drop (o + n) bytes) ≡ part ++ drop (o + n) bytes
part_there o n bytes part inside =
    let long : length (take o bytes) ≡ o = omega (arith, length-take o bytes) in
    let rest : List ℕ = part ++ drop (o + n) bytes in
    ap (drop o) (append_assoc (take o bytes) part (drop (o + n) bytes)) ∙ ap (λ k. drop k (take o bytes ++ rest)) (sym long) ∙ drop-append_seam (take o bytes) rest

-- bytes in which a field is set are as many, and bytes
pub word_length : (m : Machine) (f : Field) (n : ℕ) (bytes : List ℕ) → IsPlaced f → length bytes ≡ 16 → length (with_word m f n bytes) ≡ 16
word_length m f n bytes at long =
    put_length (f.word_offset / 8) (f.word_bits / 8) bytes (bytes_of m.insn_endian (f.word_bits / 8) (word_with f n (word_of m f bytes)))
    (omega (arith, at.inside, long)) (length_of_word m.insn_endian (f.word_bits / 8) (word_with f n (word_of m f bytes))) ∙ long

pub word_bytes : (m : Machine) (f : Field) (n : ℕ) (bytes : List ℕ) → IsPlaced f → length bytes ≡ 16 → AreBytes bytes → AreBytes (with_word m f n bytes)
word_bytes m f n bytes at long h = record {
  below = λ k.
      let o : ℕ = f.word_offset / 8 in
      let l : ℕ = f.word_bits / 8 in
      let inside : o + l ≤ length bytes = omega (arith, at.inside, long) in
      let part : List ℕ = bytes_of m.insn_endian l (word_with f n (word_of m f bytes)) in
      let same : length part ≡ l = length_of_word m.insn_endian l (word_with f n (word_of m f bytes)) in
      elim (cases_lt k o) [
        | inl lt ↦ subst (λ x. x < 256) (sym (front_stays o l k bytes part inside lt)) (h.below k)
        | inr ge ↦ elim (cases_lt k (o + l)) [
          | inr past ↦ subst (λ x. x < 256) (sym (back_stays o l k bytes part inside same past)) (h.below k)
          | inl within ↦
              let front : length (take o bytes) ≡ o = omega (arith, length-take o bytes) in
              let there : slice_index ((take o bytes ++ part) ++ drop (o + l) bytes) k ≡ slice_index part (k - o) =
              get_or_append_left (take o bytes ++ part) (drop (o + l) bytes) 0 k (omega (arith, length-append (take o bytes) part, front, same))
              ∙ get_or-append_right (take o bytes) part k 0 (omega (arith, front)) ∙ ap (λ j. slice_index part (k - j)) front in
              subst (λ x. x < 256) (sym there) ((are_bytes m.insn_endian l (word_with f n (word_of m f bytes))).below (k - o))
        ]
      ];
}

in_word : (f : Field) → IsPlaced f → IsInWord f
in_word f at = record { bytes = at.bytes; offset = at.offset; some = at.some; few = at.few; own = at.own; within = at.within }

-- the word is what is put there
word_there : (m : Machine) (f : Field) (n : ℕ) (bytes : List ℕ) → IsPlaced f → n < 2 ^ f.length → length bytes ≡ 16 → AreBytes bytes → word_of m f (with_word m f n bytes) ≡ word_with f n (word_of m f bytes)
word_there m f n bytes at fits long h =
    let o : ℕ = f.word_offset / 8 in
    let l : ℕ = f.word_bits / 8 in
    let word : ℕ = word_of m f bytes in
    let part : List ℕ = bytes_of m.insn_endian l (word_with f n word) in
    ap (number_of m.insn_endian l) (part_there o l bytes part (omega (arith, at.inside, long)))
    ∙ read_word m.insn_endian l (word_with f n word) (drop (o + l) bytes) (set_fits f n word (in_word f at) fits (subst (λ p. word < p) (sym (bytes_power l)) (word_fits m f bytes h)))

below_word : (f : Field) (x : ℕ) → IsPlaced f → x < 2 ^ (f.length + f.shift) → x < 2 ^ (8 * (f.word_bits / 8))
below_word f x at h = let le : 2 ^ (f.length + f.shift) ≤ 2 ^ (8 * (f.word_bits / 8)) = pow-le-pow_right (omega arith) (omega (arith, at.within, at.bytes)) in omega (arith, le, h)

spread_fits : (base l x : ℕ) → 8 * l + base ≤ 128 → x < 2 ^ (8 * l) → x * 2 ^ base < 2 ^ 128
spread_fits base l x room h = let le : 2 ^ (8 * l + base) ≤ 2 ^ 128 = pow-le-pow_right (omega arith) {j = 128} room in omega (arith, le, shl_below x (8 * l) base h)

-- a bit outside of the word stays
outside : (m : Machine) (f : Field) (n : ℕ) (bytes : List ℕ) (q : ℕ) → IsPlaced f → length bytes ≡ 16 → AreBytes bytes → AreBytes (with_word m f n bytes) → q < 128
    → (15 - q / 8 < f.word_offset / 8) ⊎ (f.word_offset / 8 + f.word_bits / 8 ≤ 15 - q / 8) → bit_at (whole (with_word m f n bytes)) q ≡ bit_at (whole bytes) q
outside m f n bytes q at long h k small out =
    let o : ℕ = f.word_offset / 8 in
    let l : ℕ = f.word_bits / 8 in
    let part : List ℕ = bytes_of m.insn_endian l (word_with f n (word_of m f bytes)) in
    let inside : o + l ≤ length bytes = omega (arith, at.inside, long) in
    let same : slice_index (with_word m f n bytes) (15 - q / 8) ≡ slice_index bytes (15 - q / 8) =
    elim out [
      | inl lt ↦ front_stays o l (15 - q / 8) bytes part inside lt
      | inr past ↦ back_stays o l (15 - q / 8) bytes part inside (length_of_word m.insn_endian l (word_with f n (word_of m f bytes))) past
    ] in
    whole_bit (with_word m f n bytes) q k small ∙ ap (λ x. bit_at x (q % 8)) same ∙ sym (whole_bit bytes q h small)

same_put : {a b c d e f : ℕ} → a ≡ b → c ≡ d → e ≡ f → max ((max e a + a) % 2) c ≡ max ((max f b + b) % 2) d
same_put p q r = rw (p, q, r) refl

-- A field that is set in bytes is set in their whole.
pub word_is_put : (m : Machine) (f : Field) (n : ℕ) (bytes : List ℕ) → IsPlaced f → n < 2 ^ f.length → length bytes ≡ 16 → AreBytes bytes → whole (with_word m f n bytes) ≡ with_field m f n (whole bytes)
word_is_put m f n bytes at fits long h =
    let e : Endian = m.insn_endian in
    let o : ℕ = f.word_offset / 8 in
    let l : ℕ = f.word_bits / 8 in
    let base : ℕ = behind f in
    let ones : ℕ = ones_from f.shift f.length in
    let own : ℕ = n * 2 ^ f.shift in
    let after : List ℕ = with_word m f n bytes in
    let k : AreBytes after = word_bytes m f n bytes at long h in
    let ones_fit : ones < 2 ^ (8 * l) = below_word f ones at (omega (arith, pow_pos f.shift, pow_pos (f.length + f.shift))) in
    let own_fits : own < 2 ^ (8 * l) = below_word f own at (shl_below n f.length f.shift fits) in
    let room : 8 * l + base ≤ 128 = omega (arith, at.inside) in
    let cover_fits : cover_of m f < 2 ^ 128 = spread_fits base l (turned e l ones) room (turned_fits e l ones) in
    let value_fits : placed m f n < 2 ^ 128 = spread_fits base l (turned e l own) room (turned_fits e l own) in
    let result_fits : with_field m f n (whole bytes) < 2 ^ 128 = or_lt 128 _ _ (xor_lt 128 _ _ (or_lt 128 (whole bytes) (cover_of m f) (whole_fits bytes h) cover_fits) cover_fits) value_fits in
    same_from_bits_below 128 _ _ (whole_fits after k) result_fits (λ q small.
    elim (cases_lt q base) [
      | inl lt ↦
          outside m f n bytes q at long h k small (inr (omega (arith, at.inside)))
          ∙ sym (stays (cover_of m f) (placed m f n) (whole bytes) q (spread_below base (turned e l ones) q lt) (spread_below base (turned e l own) q lt))
      | inr ge ↦ elim (cases_lt q (base + 8 * l)) [
        | inr past ↦
            outside m f n bytes q at long h k small (inl (omega (arith, at.inside)))
            ∙ sym (stays (cover_of m f) (placed m f n) (whole bytes) q (spread_above base (8 * l) (turned e l ones) q (turned_fits e l ones) past) (spread_above base (8 * l) (turned e l own) q (turned_fits e l own) past))
        | inl within ↦
            let p : ℕ = turned_place e l (q - base) in
            let below : p < 8 * l = turned_below e l (q - base) (omega arith) in
            let back : turned_place e l p ≡ q - base = turned_back e l (q - base) (omega arith) in
            let there : base + turned_place e l p ≡ q = omega (arith, back) in
            let one : bit_at (cover_of m f) q ≡ bit_at ones p = ap (bit_at (cover_of m f)) (sym there) ∙ spread_inside base l (turned e l ones) (turned_place e l p) ∙ turned_number_bit e l ones p ones_fit below in
            let two : bit_at (placed m f n) q ≡ bit_at own p = ap (bit_at (placed m f n)) (sym there) ∙ spread_inside base l (turned e l own) (turned_place e l p) ∙ turned_number_bit e l own p own_fits below in
            let three : bit_at (whole bytes) q ≡ bit_at (word_of m f bytes) p = ap (bit_at (whole bytes)) (sym there) ∙ sym (word_bit m f bytes p at h below) in
            ap (bit_at (whole after)) (sym there) ∙ sym (word_bit m f after p at k below)
            ∙ ap (λ x. bit_at x p) (word_there m f n bytes at fits long h ∙ word_is_set f n (word_of m f bytes) fits)
            ∙ set_bit ones own (word_of m f bytes) p
            ∙ sym (set_bit (cover_of m f) (placed m f n) (whole bytes) q ∙ same_put one two three)
      ]
    ])

-- a field within the 16 bytes is set
near_is_set : (m : Machine) (f : Field) (n : ℕ) (bytes : List ℕ) → IsPlaced f → with_bits m f n bytes ≡ with_word m f n bytes
near_is_set m f n bytes at =
    let near : nat_le (f.word_offset + f.word_bits) 128 ≡ true = (let le : f.word_offset + f.word_bits ≤ 128 = at.inside in grind (arith, nat_tests)) in
    ap (λ b. if b then with_word m f n bytes else bytes) near

pub set_length : (m : Machine) (f : Field) (n : ℕ) (bytes : List ℕ) → IsPlaced f → length bytes ≡ 16 → length (with_bits m f n bytes) ≡ 16
set_length m f n bytes at long = ap length (near_is_set m f n bytes at) ∙ word_length m f n bytes at long

pub set_bytes : (m : Machine) (f : Field) (n : ℕ) (bytes : List ℕ) → IsPlaced f → length bytes ≡ 16 → AreBytes bytes → AreBytes (with_bits m f n bytes)
set_bytes m f n bytes at long h = subst AreBytes (sym (near_is_set m f n bytes at)) (word_bytes m f n bytes at long h)

pub whole_is_set : (m : Machine) (f : Field) (n : ℕ) (bytes : List ℕ) → IsPlaced f → n < 2 ^ f.length → length bytes ≡ 16 → AreBytes bytes → whole (with_bits m f n bytes) ≡ with_field m f n (whole bytes)
whole_is_set m f n bytes at fits long h = ap whole (near_is_set m f n bytes at) ∙ word_is_put m f n bytes at fits long h
