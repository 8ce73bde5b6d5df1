-- The constants of an instruction lie in its bytes.
use Rattle.std.proofs.Common.{◌≡◌, ℕ, ◌+◌, ◌-◌, ◌*◌, ◌/◌, ◌%◌, ◌^◌, ◌≤◌, max, bit_or, Bool, true, false, if◌then◌else◌, List, [], ◌∷◌, ◌++◌, Option, Some, None, slice_get, sym, ap, ◌∙◌, refl, subst, inl, inr, arith}
use Rattle.std.specs.Int.{bit_at}
use Rattle.std.proofs.lemmas.Nat.{pow_pos, mod_below, or_mod, div-add-mod'}
use Rattle.std.proofs.lemmas.Nat.Bits.{bit_at_cat_low, bit_at_above, bit_at-zero, same_from_bits}
use Rattle.std.proofs.lemmas.Bool.{cases_lt}
use Rattle.cg_model.specs.declared.field.Field.{Field}
use Rattle.cg_model.specs.declared.insn.Insn.{Insn}
use Rattle.cg_model.specs.declared.insn.Part.{Part}
use Rattle.cg_model.specs.declared.insn.Part.TheVariants.{Constant, Slot}
use Rattle.cg_model.specs.declared.machine.Machine.{Machine}
use Rattle.cg_model.specs.Matching.{fields_of_part, fields_of_parts, end_of, last_end, length_of}
use Rattle.cg_model.specs.Covers.{IsInWord, turned, behind, ones_from}
use Rattle.cg_model.specs.Covers.{AreInWords, is_near, cover_of, field_cover, near_cover}
use Rattle.cg_code_mask.specs.Constants.{part_cover, parts_cover}
use Rattle.cg_code_mask.proofs.Masks.{spread_below}

-- what is shifted far has no low bits
shifted_low : (x k j : ℕ) → j ≤ k → (x * 2 ^ k) % 2 ^ j ≡ 0
shifted_low x k j le = same_from_bits _ _ (λ q.
    elim (cases_lt q j) [
      | inl lt ↦
          sym (bit_at_cat_low ((x * 2 ^ k) / 2 ^ j) j ((x * 2 ^ k) % 2 ^ j) q lt) ∙ ap (λ y. bit_at y q) (div-add-mod' (x * 2 ^ k) (2 ^ j))
          ∙ spread_below k x q (omega arith) ∙ sym (bit_at-zero q)
      | inr ge ↦ bit_at_above ((x * 2 ^ k) % 2 ^ j) j q (mod_below (x * 2 ^ k) (2 ^ j) (pow_pos j)) ge ∙ sym (bit_at-zero q)
    ])

pub zero_low : (j : ℕ) → 0 % 2 ^ j ≡ 0
zero_low j = omega (arith, pow_pos j)

pub both_low : (a b j : ℕ) → a % 2 ^ j ≡ 0 → b % 2 ^ j ≡ 0 → bit_or a b % 2 ^ j ≡ 0
both_low a b j e f = or_mod a b j ∙ ap (λ x. bit_or x (b % 2 ^ j)) e ∙ ap (bit_or 0) f

-- a field that ends within n bytes
pub field_low : (m : Machine) (o : Option Field) (n : ℕ) → ((f : Field) → o ≡ Some f → IsInWord f) → end_of o ≤ 8 * n → field_cover m o % 2 ^ (8 * (16 - n)) ≡ 0
field_low m None n at h = zero_low (8 * (16 - n))
field_low m (Some f) n at h =
    let p : IsInWord f = at f refl in
    let words : f.word_offset / 8 + f.word_bits / 8 ≤ n = omega (arith, p.offset, p.bytes, h) in
    shifted_low (turned m.insn_endian (f.word_bits / 8) (ones_from f.shift f.length)) (behind f) (8 * (16 - n)) (omega (arith, words))

end_in_front : (m : Machine) (ks ls : List ℕ) → last_end m ks ≤ last_end m (ks ++ ls)
end_in_front m [] ls = omega arith
end_in_front m (k ∷ ks) ls = omega (arith, end_in_front m ks ls)

end_behind : (m : Machine) (ks ls : List ℕ) → last_end m ls ≤ last_end m (ks ++ ls)
end_behind m [] ls = omega arith
end_behind m (k ∷ ks) ls = omega (arith, end_behind m ks ls)

part_low : (m : Machine) (p : Part) (n : ℕ) → AreInWords m → last_end m (fields_of_part m p) ≤ 8 * n → part_cover m p % 2 ^ (8 * (16 - n)) ≡ 0
part_low m (Constant field value) n at h = field_low m (slice_get m.fields field) n (at.each field) (omega (arith, h))
part_low m (Slot s) n at h = zero_low (8 * (16 - n))

parts_low : (m : Machine) (ps : List Part) (n : ℕ) → AreInWords m → last_end m (fields_of_parts m ps) ≤ 8 * n → parts_cover m ps % 2 ^ (8 * (16 - n)) ≡ 0
parts_low m [] n at h = zero_low (8 * (16 - n))
parts_low m (p ∷ ps) n at h =
    both_low (part_cover m p) (parts_cover m ps) (8 * (16 - n))
    (part_low m p n at (omega (arith, end_in_front m (fields_of_part m p) (fields_of_parts m ps))))
    (parts_low m ps n at (omega (arith, end_behind m (fields_of_part m p) (fields_of_parts m ps))))

-- a field that an expression names
either_low : (b : Bool) (c j : ℕ) → c % 2 ^ j ≡ 0 → (if b then c else 0) % 2 ^ j ≡ 0
either_low true c j e = e
either_low false c j e = zero_low j

pub near_low : (m : Machine) (o : Option Field) (n : ℕ) → ((f : Field) → o ≡ Some f → IsInWord f) → end_of o ≤ 8 * n → near_cover m o % 2 ^ (8 * (16 - n)) ≡ 0
near_low m None n at h = zero_low (8 * (16 - n))
near_low m (Some f) n at h = either_low (is_near f) (cover_of m f) (8 * (16 - n)) (field_low m (Some f) n at h)

-- where a field ends: at a byte
record Ends (end : ℕ) : Type 0 where
  bytes : end ≡ 8 * (end / 8)

ends_at : (o : Option Field) → ((f : Field) → o ≡ Some f → IsInWord f) → Ends (end_of o)
ends_at None at = record { bytes = omega arith }
ends_at (Some f) at = let p : IsInWord f = at f refl in record { bytes = omega (arith, p.offset, p.bytes) }

later : (a b : ℕ) → Ends a → Ends b → Ends (max a b)
later a b x y = elim (cases_lt a b) [
  | inl lt ↦ let e : b ≡ max a b = omega arith in subst Ends e y
  | inr ge ↦ let e : a ≡ max a b = omega arith in subst Ends e x
]

last_ends : (m : Machine) (ks : List ℕ) → AreInWords m → Ends (last_end m ks)
last_ends m [] at = record { bytes = omega arith }
last_ends m (k ∷ ks) at = later (end_of (slice_get m.fields k)) (last_end m ks) (ends_at (slice_get m.fields k) (at.each k)) (last_ends m ks at)

-- Its fields end within it.
pub last_within : (m : Machine) (i : Insn) → AreInWords m → last_end m (fields_of_parts m i.parts) ≤ 8 * length_of m i
last_within m i at =
    let ends : Ends (last_end m (fields_of_parts m i.parts)) = last_ends m (fields_of_parts m i.parts) at in
    omega (arith, ends.bytes)

-- Its constants cover bits of its own bytes alone.
pub covered : (m : Machine) (i : Insn) → AreInWords m → parts_cover m i.parts % 2 ^ (8 * (16 - length_of m i)) ≡ 0
covered m i at = parts_low m i.parts (length_of m i) at (last_within m i at)
