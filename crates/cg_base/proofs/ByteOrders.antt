-- Numbers in bytes, in either order.
use Rattle.std.proofs.Common.{◌≡◌, ℕ, ◌+◌, ◌^◌, ◌<◌, ◌≤◌, List, ◌++◌, length, get_or, take, drop, sym, ap, ◌∙◌, arith, length-take, append_assoc, inl, inr}
use Rattle.std.proofs.lemmas.Bool.{cases_lt}
use Rattle.std.proofs.lemmas.List.{get_or-take, get_or-drop, get_or_past}
use Rattle.std.proofs.Math.Seq.{drop-append_seam}
use Rattle.std.specs.Int.{w8}
use mir.Val.{Fits}
use borrow.Rule.Slice.PartMut.{put_mid, post_of}
use Rattle.byteorder.specs.Numbers.{big_from-lt, little_from-lt, big_number-reads_back, little_number-reads_back}
use Rattle.cg_base.specs.declared.mode.Endian.{Endian}
use Rattle.cg_base.specs.declared.mode.Endian.TheVariants.{Big, Little}
use Rattle.cg_base.specs.Bytes.{number_of, bytes_of}

reads_back : (e : Endian) (n v : ℕ) (rest : List ℕ) → v < 256 ^ n → number_of e n (bytes_of e n v ++ rest) ≡ v
reads_back Big n v rest fits = big_number-reads_back n v rest fits
reads_back Little n v rest fits = little_number-reads_back n v rest fits

-- what was put at place a stands there
pub put_reads_back : (e : Endian) (a k n v : ℕ) (xs ys rest : List ℕ) → a ≤ length xs → v < 256 ^ n → ys ≡ bytes_of e n v ++ rest
    → number_of e n (drop a (put_mid a k xs ys)) ≡ v
put_reads_back e a k n v xs ys rest within fits same =
    let len : length (take a xs) ≡ a = omega (arith, length-take a xs) in
    let seam : drop a (put_mid a k xs ys) ≡ ys ++ post_of a k xs = ap (λ j. drop j (put_mid a k xs ys)) (sym len) ∙ drop-append_seam (take a xs) (ys ++ post_of a k xs) in
    ap (number_of e n) (seam ∙ ap (λ zs. zs ++ post_of a k xs) same ∙ append_assoc (bytes_of e n v) rest (post_of a k xs))
    ∙ reads_back e n v (rest ++ post_of a k xs) fits

part_fits : (m o : ℕ) (xs : List ℕ) → ((i : ℕ) → Fits w8 (get_or xs i 0)) → (k : ℕ) → get_or (take m (drop o xs)) k 0 < 256
part_fits m o xs fits k =
    elim (cases_lt k m) [
      | inl lt ↦ rw (get_or-take m (drop o xs) k 0 lt, get_or-drop o xs k 0) (fits (o + k)).fits
      | inr le ↦ rw (get_or_past (take m (drop o xs)) k 0 (omega (arith, length-take m (drop o xs)))) (omega arith)
    ]

pub number_fits : (e : Endian) (n m o : ℕ) (xs : List ℕ) → ((i : ℕ) → Fits w8 (get_or xs i 0)) → number_of e n (take m (drop o xs)) < 256 ^ n
number_fits Big n m o xs fits = big_from-lt 0 n (take m (drop o xs)) (part_fits m o xs fits)
number_fits Little n m o xs fits = little_from-lt 0 n (take m (drop o xs)) (part_fits m o xs fits)
