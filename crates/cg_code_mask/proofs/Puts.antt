-- Bits that are put in place: they are read back, others stay, and puts at different places commute.
use Rattle.std.proofs.Common.{◌≡◌, ℕ, ◌+◌, ◌%◌, ◌^◌, ◌<◌, min, max, bit_and, sym, ap, ◌∙◌, refl, inl, inr, arith}
use Rattle.std.proofs.lemmas.Bool.{cases_lt}
use Rattle.std.specs.Int.{bit_at}
use Rattle.std.proofs.lemmas.Nat.Bits.{bit_at_and, bit_at_or, bit_at_xor, bit_at-lt, bit_at-zero, same_from_bits}
use Rattle.cg_model.specs.declared.field.Field.{Field}
use Rattle.cg_model.specs.declared.machine.Machine.{Machine}
use Rattle.std.proofs.Math.Nat.{mod-eq_of_lt}
use Rattle.cg_model.specs.Fields.{bits_at}
use Rattle.cg_code_mask.specs.View.{bytes_of_whole, placed, with_set, with_field}
use Rattle.cg_model.specs.Covers.{IsPlaced, cover_of}
use Rattle.cg_code_mask.proofs.FieldLaws.{placed_inside, stands_in_field, same_bits}
use Rattle.cg_code_mask.proofs.Wholes.{are_whole_bytes, whole_back}

and_bit : (w c v i : ℕ) → bit_and w c ≡ v → min (bit_at w i) (bit_at c i) ≡ bit_at v i
and_bit w c v i e = sym (bit_at_and w c i) ∙ ap (λ x. bit_at x i) e

no_bit : (c d i : ℕ) → bit_and c d ≡ 0 → min (bit_at c i) (bit_at d i) ≡ 0
no_bit c d i e = and_bit c d 0 i e ∙ bit_at-zero i

pub set_back : (c v w : ℕ) → bit_and v c ≡ v → bit_and (with_set c v w) c ≡ v
set_back c v w e = same_from_bits _ _ (λ i. simp (bit_at_and, bit_at_or, bit_at_xor) (omega (arith, and_bit v c v i e, bit_at-lt c i, bit_at-lt v i, bit_at-lt w i)))

pub set_apart : (c v w d : ℕ) → bit_and v c ≡ v → bit_and c d ≡ 0 → bit_and (with_set c v w) d ≡ bit_and w d
set_apart c v w d e apart = same_from_bits _ _ (λ i. simp (bit_at_and, bit_at_or, bit_at_xor) (omega (arith, and_bit v c v i e, no_bit c d i apart, bit_at-lt c i, bit_at-lt d i, bit_at-lt v i, bit_at-lt w i)))

-- one bit of a put
abbrev set_bit : ℕ → ℕ → ℕ → ℕ
set_bit c v w = max ((max w c + c) % 2) v

bit_of_set : (c v w i : ℕ) → bit_at (with_set c v w) i ≡ set_bit (bit_at c i) (bit_at v i) (bit_at w i)
bit_of_set c v w i = simp (bit_at_or, bit_at_xor) refl

-- a bit that isn't covered stays
stays : (c v w : ℕ) → c ≡ 0 → min v c ≡ v → w < 2 → set_bit c v w ≡ w
stays c v w e f h = omega (arith, e, f)

bit_below : (c v w : ℕ) → v < 2 → set_bit c v w < 2
bit_below c v w h = omega arith

commute_bit : (c v d u w : ℕ) → min v c ≡ v → min u d ≡ u → min c d ≡ 0 → v < 2 → u < 2 → w < 2 → set_bit d u (set_bit c v w) ≡ set_bit c v (set_bit d u w)
commute_bit c v d u w e f none hv hu hw =
    elim (cases_lt 0 c) [
      | inl on ↦
          let off : d ≡ 0 = omega arith in
          stays d u (set_bit c v w) off f (bit_below c v w hv) ∙ ap (set_bit c v) (sym (stays d u w off f hw))
      | inr off ↦
          let zero : c ≡ 0 = omega arith in
          ap (set_bit d u) (stays c v w zero e hw) ∙ sym (stays c v (set_bit d u w) zero e (bit_below d u w hu))
    ]

pub sets_commute : (c v d u w : ℕ) → bit_and v c ≡ v → bit_and u d ≡ u → bit_and c d ≡ 0 → with_set d u (with_set c v w) ≡ with_set c v (with_set d u w)
sets_commute c v d u w e f apart = same_from_bits _ _ (λ i.
    bit_of_set d u (with_set c v w) i ∙ ap (set_bit (bit_at d i) (bit_at u i)) (bit_of_set c v w i)
    ∙ commute_bit (bit_at c i) (bit_at v i) (bit_at d i) (bit_at u i) (bit_at w i) (and_bit v c v i e) (and_bit u d u i f) (no_bit c d i apart) (bit_at-lt v i) (bit_at-lt u i) (bit_at-lt w i)
    ∙ sym (bit_of_set c v (with_set d u w) i ∙ ap (set_bit (bit_at c i) (bit_at v i)) (bit_of_set d u w i)))

pub set_twice : (c v u w : ℕ) → bit_and u c ≡ u → with_set c v (with_set c u w) ≡ with_set c v w
set_twice c v u w e = same_from_bits _ _ (λ i. simp (bit_at_or, bit_at_xor) (omega (arith, and_bit u c u i e, bit_at-lt c i, bit_at-lt v i, bit_at-lt u i, bit_at-lt w i)))

-- fields that share no bit commute
pub fields_commute : (m : Machine) (f g : Field) (v u w : ℕ) → IsPlaced f → IsPlaced g → v < 2 ^ f.length → u < 2 ^ g.length → bit_and (cover_of m f) (cover_of m g) ≡ 0
    → with_field m g u (with_field m f v w) ≡ with_field m f v (with_field m g u w)
fields_commute m f g v u w at bt h k apart = sets_commute (cover_of m f) (placed m f v) (cover_of m g) (placed m g u) w (placed_inside m f v at h) (placed_inside m g u bt k) apart

-- a field reads back what was put into it
pub field_reads_back : (m : Machine) (f : Field) (v w : ℕ) → IsPlaced f → v < 2 ^ f.length → with_field m f v w < 2 ^ 128 → bits_at m f (bytes_of_whole (with_field m f v w)) ≡ v
field_reads_back m f v w at h fits =
    stands_in_field m f (bytes_of_whole (with_field m f v w)) v at (are_whole_bytes (with_field m f v w)) h
    (ap (λ x. bit_and x (cover_of m f)) (whole_back (with_field m f v w) ∙ mod-eq_of_lt fits) ∙ set_back (cover_of m f) (placed m f v) w (placed_inside m f v at h))

-- a field that shares no bit with it stays
pub field_stays : (m : Machine) (f g : Field) (v w : ℕ) → IsPlaced f → IsPlaced g → v < 2 ^ f.length → bit_and (cover_of m f) (cover_of m g) ≡ 0 → w < 2 ^ 128 → with_field m f v w < 2 ^ 128
    → bits_at m g (bytes_of_whole (with_field m f v w)) ≡ bits_at m g (bytes_of_whole w)
field_stays m f g v w at bt h apart small fits =
    same_bits m g (bytes_of_whole (with_field m f v w)) (bytes_of_whole w) bt (are_whole_bytes (with_field m f v w)) (are_whole_bytes w)
    (ap (λ x. bit_and x (cover_of m g)) (whole_back (with_field m f v w) ∙ mod-eq_of_lt fits)
    ∙ set_apart (cover_of m f) (placed m f v) w (cover_of m g) (placed_inside m f v at h) apart
    ∙ sym (ap (λ x. bit_and x (cover_of m g)) (whole_back w ∙ mod-eq_of_lt small)))
