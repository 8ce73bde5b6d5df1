-- A format's constants stand in bytes exactly where their bits stand in the whole.
use Rattle.std.proofs.Common.{◌≡◌, ℕ, ◌^◌, ◌<◌, min, max, bit_and, bit_or, Bool, true, false, ◌==◌, ◌&&◌, List, [], ◌∷◌, Option, Some, None, slice_get, sym, ap, ◌∙◌, refl, arith}
use Rattle.std.specs.List.{list_all}
use Rattle.std.specs.Int.{bit_at}
use Rattle.std.proofs.lemmas.Nat.Bits.{bit_at_and, bit_at_or, bit_at-lt, bit_at-zero, same_from_bits}
use Rattle.std.proofs.lemmas.Bool.{false≢true}
use Rattle.std.proofs.lemmas.Bool.{eqb-true, eq-eqb}
use Rattle.cg_model.specs.declared.field.Field.{Field}
use Rattle.cg_model.specs.declared.insn.Part.{Part}
use Rattle.cg_model.specs.declared.insn.Part.TheVariants.{Constant, Slot}
use Rattle.cg_model.specs.declared.machine.Machine.{Machine}
use Rattle.cg_model.specs.Fields.{bits_at}
use Rattle.cg_model.specs.Matching.{part_stands}
use Rattle.cg_code_mask.specs.View.{whole}
use Rattle.cg_model.specs.Clashing.{AreBytes}
use Rattle.cg_model.specs.Covers.{IsPlaced}
use Rattle.cg_model.specs.Covers.{field_cover}
use Rattle.cg_code_mask.specs.Constants.{field_placed, part_cover, part_value, parts_cover, parts_value, IsFitting, AreFitting}
use Rattle.cg_code_mask.proofs.FieldLaws.{stands_in_whole, stands_in_field, placed_inside}

and_bit : (w c v i : ℕ) → bit_and w c ≡ v → min (bit_at w i) (bit_at c i) ≡ bit_at v i
and_bit w c v i e = sym (bit_at_and w c i) ∙ ap (λ x. bit_at x i) e

no_bits : (w : ℕ) → bit_and w 0 ≡ 0
no_bits w = same_from_bits _ _ (λ i. simp (bit_at_and, bit_at-zero) (omega arith))

join : (w c d v u : ℕ) → bit_and w c ≡ v → bit_and w d ≡ u → bit_and w (bit_or c d) ≡ bit_or v u
join w c d v u e f = same_from_bits _ _ (λ i. simp (bit_at_and, bit_at_or) (omega (arith, and_bit w c v i e, and_bit w d u i f)))

-- what stands under two masks that share no bit stands under each
split : (w c d v u : ℕ) → bit_and v c ≡ v → bit_and u d ≡ u → bit_and c d ≡ 0 → bit_and w (bit_or c d) ≡ bit_or v u → (bit_and w c ≡ v) × (bit_and w d ≡ u)
split w c d v u e f apart both =
    let bit : (i : ℕ) → min (bit_at w i) (max (bit_at c i) (bit_at d i)) ≡ max (bit_at v i) (bit_at u i) = λ i. simp (bit_at_and, bit_at_or) at (ap (λ x. bit_at x i) both) in
    let none : (i : ℕ) → min (bit_at c i) (bit_at d i) ≡ 0 = λ i. and_bit c d 0 i apart ∙ bit_at-zero i in (
      same_from_bits _ _ (λ i. simp bit_at_and (omega (arith, bit i, none i, and_bit v c v i e, and_bit u d u i f, bit_at-lt c i, bit_at-lt d i, bit_at-lt v i, bit_at-lt u i, bit_at-lt w i))),
      same_from_bits _ _ (λ i. simp bit_at_and (omega (arith, bit i, none i, and_bit v c v i e, and_bit u d u i f, bit_at-lt c i, bit_at-lt d i, bit_at-lt v i, bit_at-lt u i, bit_at-lt w i))),
    )

first_true : (a b : Bool) → (a && b) ≡ true → a ≡ true
first_true true b e = refl
first_true false b e = e

second_true : (a b : Bool) → (a && b) ≡ true → b ≡ true
second_true true b e = e
second_true false b e = absurd (false≢true e)

both_true : (a b : Bool) → a ≡ true → b ≡ true → (a && b) ≡ true
both_true a b e f = rw (e, f) refl

-- what a machine and a format say of a constant's field
record Fine (m : Machine) (o : Option Field) (v : ℕ) : Type 0 where
  at : (f : Field) → o ≡ Some f → IsPlaced f
  fits : (f : Field) → o ≡ Some f → v < 2 ^ f.length

field_to_whole : (m : Machine) (o : Option Field) (bytes : List ℕ) (v : ℕ) → Fine m o v → AreBytes bytes → elim o [ None ↦ true | Some f ↦ bits_at m f bytes == v ] ≡ true → bit_and (whole bytes) (field_cover m o) ≡ field_placed m o v
field_to_whole m None bytes v fine h stands = no_bits (whole bytes)
field_to_whole m (Some f) bytes v fine h stands = stands_in_whole m f bytes v (fine.at f refl) h (fine.fits f refl) (eqb-true (bits_at m f bytes) v stands)

field_from_whole : (m : Machine) (o : Option Field) (bytes : List ℕ) (v : ℕ) → Fine m o v → AreBytes bytes → bit_and (whole bytes) (field_cover m o) ≡ field_placed m o v → elim o [ None ↦ true | Some f ↦ bits_at m f bytes == v ] ≡ true
field_from_whole m None bytes v fine h same = refl
field_from_whole m (Some f) bytes v fine h same = eq-eqb (bits_at m f bytes) v (stands_in_field m f bytes v (fine.at f refl) h (fine.fits f refl) same)

field_inside : (m : Machine) (o : Option Field) (v : ℕ) → Fine m o v → bit_and (field_placed m o v) (field_cover m o) ≡ field_placed m o v
field_inside m None v fine = no_bits 0
field_inside m (Some f) v fine = placed_inside m f v (fine.at f refl) (fine.fits f refl)

part_to_whole : (m : Machine) (p : Part) (bytes : List ℕ) → IsFitting m p → AreBytes bytes → part_stands m bytes p ≡ true → bit_and (whole bytes) (part_cover m p) ≡ part_value m p
part_to_whole m (Constant field v) bytes fits h stands = field_to_whole m (slice_get m.fields field) bytes v (record { at = λ f is. (fits f is).1; fits = λ f is. (fits f is).0 }) h stands
part_to_whole m (Slot s) bytes fits h stands = no_bits (whole bytes)

part_from_whole : (m : Machine) (p : Part) (bytes : List ℕ) → IsFitting m p → AreBytes bytes → bit_and (whole bytes) (part_cover m p) ≡ part_value m p → part_stands m bytes p ≡ true
part_from_whole m (Constant field v) bytes fits h same = field_from_whole m (slice_get m.fields field) bytes v (record { at = λ f is. (fits f is).1; fits = λ f is. (fits f is).0 }) h same
part_from_whole m (Slot s) bytes fits h same = refl

part_inside : (m : Machine) (p : Part) → IsFitting m p → bit_and (part_value m p) (part_cover m p) ≡ part_value m p
part_inside m (Constant field v) fits = field_inside m (slice_get m.fields field) v (record { at = λ f is. (fits f is).1; fits = λ f is. (fits f is).0 })
part_inside m (Slot s) fits = no_bits 0

pub parts_inside : (m : Machine) (ps : List Part) → AreFitting m ps → bit_and (parts_value m ps) (parts_cover m ps) ≡ parts_value m ps
parts_inside m [] fits = no_bits 0
parts_inside m (p ∷ ps) fits =
    let c : ℕ = part_cover m p in
    let d : ℕ = parts_cover m ps in
    let v : ℕ = part_value m p in
    let u : ℕ = parts_value m ps in
    let e : bit_and v c ≡ v = part_inside m p fits.0 in
    let f : bit_and u d ≡ u = parts_inside m ps fits.2 in
    same_from_bits _ _ (λ i. simp (bit_at_and, bit_at_or) (omega (arith, and_bit v c v i e, and_bit u d u i f)))

-- The constants stand in the bytes exactly where they stand in the whole.
pub parts_to_whole : (m : Machine) (ps : List Part) (bytes : List ℕ) → AreFitting m ps → AreBytes bytes → list_all (part_stands m bytes) ps ≡ true → bit_and (whole bytes) (parts_cover m ps) ≡ parts_value m ps
parts_to_whole m [] bytes fits h stands = no_bits (whole bytes)
parts_to_whole m (p ∷ ps) bytes fits h stands =
    join (whole bytes) (part_cover m p) (parts_cover m ps) (part_value m p) (parts_value m ps)
    (part_to_whole m p bytes fits.0 h (first_true (part_stands m bytes p) _ stands))
    (parts_to_whole m ps bytes fits.2 h (second_true (part_stands m bytes p) _ stands))

pub parts_from_whole : (m : Machine) (ps : List Part) (bytes : List ℕ) → AreFitting m ps → AreBytes bytes → bit_and (whole bytes) (parts_cover m ps) ≡ parts_value m ps → list_all (part_stands m bytes) ps ≡ true
parts_from_whole m [] bytes fits h same = refl
parts_from_whole m (p ∷ ps) bytes fits h same =
    let two = split (whole bytes) (part_cover m p) (parts_cover m ps) (part_value m p) (parts_value m ps) (part_inside m p fits.0) (parts_inside m ps fits.2) fits.1 same in
    both_true (part_stands m bytes p) _ (part_from_whole m p bytes fits.0 h two.0) (parts_from_whole m ps bytes fits.2 h two.1)
