-- A sound machine has patterns.
use Rattle.std.proofs.Common.{◌≡◌, ℕ, ◌+◌, ◌≤◌, min, max, bit_and, count_ones, List, [], ◌∷◌, Option, Some, None, slice_get, sym, ap, ◌∙◌, refl, arith}
use Rattle.std.specs.Int.{bit_at}
use Rattle.std.proofs.lemmas.Nat.Bits.{bit_at_and, bit_at_or, bit_at-zero, same_from_bits}
use Rattle.std.proofs.lemmas.Nat.{ones_le_self}
use Rattle.cg_model.specs.declared.insn.Insn.{Insn}
use Rattle.cg_model.specs.declared.insn.Part.{Part}
use Rattle.cg_model.specs.declared.insn.Part.TheVariants.{Constant, Slot}
use Rattle.cg_model.specs.declared.machine.Machine.{Machine}
use Rattle.cg_model.specs.declared.rtl.Rtl.{Rtl}
use Rattle.cg_code.proofs.Ends.{end_of_both}
use Rattle.cg_model.specs.declared.field.Field.{Field}
use Rattle.cg_model.specs.Matching.{end_of, last_end, fields_of_part, fields_of_parts}
use Rattle.cg_code_mask.proofs.Within.{last_within}
use Rattle.cg_model.specs.Covers.{IsInWord, IsPlaced, AreInWords, covered_by, covered_by_all, named_bits, asked_bits}
use Rattle.cg_model.specs.Sound.{IsSound, SoundInsn, AreApart}
use Rattle.cg_code_mask.specs.Constants.{IsFitting, AreFitting, part_cover, parts_cover}
use Rattle.cg_ambig.specs.Patterns.{HasPatterns}

and_bit : (w c v i : ℕ) → bit_and w c ≡ v → min (bit_at w i) (bit_at c i) ≡ bit_at v i
and_bit w c v i e = sym (bit_at_and w c i) ∙ ap (λ x. bit_at x i) e

-- the constants are part of what is covered
part_within : (m : Machine) (p : Part) → bit_and (part_cover m p) (covered_by m p) ≡ part_cover m p
part_within m (Constant k c) = same_from_bits _ _ (λ i. simp (bit_at_and, bit_at_or) (omega arith))
part_within m (Slot o) = same_from_bits _ _ (λ i. simp (bit_at_and, bit_at-zero) (omega arith))

all_within : (m : Machine) (ps : List Part) → bit_and (parts_cover m ps) (covered_by_all m ps) ≡ parts_cover m ps
all_within m [] = same_from_bits _ _ (λ i. simp (bit_at_and, bit_at-zero) (omega arith))
all_within m (p ∷ ps) = same_from_bits _ _ (λ i. simp (bit_at_and, bit_at_or) (omega (arith, and_bit (part_cover m p) (covered_by m p) (part_cover m p) i (part_within m p), and_bit (parts_cover m ps) (covered_by_all m ps) (parts_cover m ps) i (all_within m ps))))

apart : (a b c d : ℕ) → bit_and a c ≡ a → bit_and b d ≡ b → bit_and c d ≡ 0 → bit_and a b ≡ 0
apart a b c d e f none = same_from_bits _ _ (λ i. simp (bit_at_and, bit_at-zero) (omega (arith, and_bit a c a i e, and_bit b d b i f, and_bit c d 0 i none, bit_at-zero i)))

-- a field in its word, which ends within 16 bytes
placed : (f : Field) → IsInWord f → f.word_offset + f.word_bits ≤ 128 → IsPlaced f
placed f w h = record { bytes = w.bytes; offset = w.offset; some = w.some; few = w.few; inside = h; own = w.own; within = w.within }

part_fits : (m : Machine) (p : Part) (ps : List Part) → AreInWords m → last_end m (fields_of_part m p) ≤ 128 → AreApart m (p ∷ ps) → IsFitting m p
part_fits m (Constant k c) ps at h x = λ f is. (x.0.1 f is, placed f (at.each k f is) (let end : end_of (slice_get m.fields k) ≡ f.word_offset + f.word_bits = ap end_of is in omega (arith, h, end)))
part_fits m (Slot o) ps at h x = tt

fitting : (m : Machine) (ps : List Part) → AreInWords m → last_end m (fields_of_parts m ps) ≤ 128 → AreApart m ps → AreFitting m ps
fitting m [] at h x = tt
fitting m (p ∷ ps) at h x =
    let both : last_end m (fields_of_parts m (p ∷ ps)) ≡ max (last_end m (fields_of_part m p)) (last_end m (fields_of_parts m ps)) = end_of_both m (fields_of_part m p) (fields_of_parts m ps) in
    (part_fits m p ps at (omega (arith, both, h)) x, apart (part_cover m p) (parts_cover m ps) (covered_by m p) (covered_by_all m ps) (part_within m p) (all_within m ps) x.1, fitting m ps at (omega (arith, both, h)) x.2)

-- an assertion names few bits, and none where there is none
few_asked : (m : Machine) (i : Insn) (r : Option Rtl) → i.assertion ≡ r → SoundInsn m i → count_ones (asked_bits m i) ≤ 8
few_asked m i None is sound = omega (arith, ap (λ o. count_ones (elim o as (λ _. ℕ) [ None ↦ 0 | Some rule ↦ named_bits m rule ])) is, ones_le_self 0)
few_asked m i (Some rule) is sound = (sound.assertion rule is).few

-- A sound machine has patterns.
pub has_patterns : (m : Machine) → IsSound m → HasPatterns m
has_patterns m sound =
    let words : AreInWords m = record { each = λ k f is. (sound.fields k f is).placed } in
    record {
      placed = words;
      short = λ k i is. (sound.insns k i is).short;
      fitting = λ k i is. fitting m i.parts words (omega (arith, last_within m i words, (sound.insns k i is).short)) (sound.insns k i is).parts;
      named = λ k i is rule asks. ((sound.insns k i is).assertion rule asks).allowed;
      few = λ k i is. few_asked m i i.assertion refl (sound.insns k i is);
    }
