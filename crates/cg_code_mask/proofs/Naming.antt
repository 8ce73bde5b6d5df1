-- The bits that an expression names lie in the bytes of the fields that it names.
use Rattle.std.proofs.Common.{◌≡◌, ℕ, ◌+◌, ◌-◌, ◌*◌, ◌%◌, ◌^◌, ◌≤◌, Bool, true, false, ◌&&◌, ◌||◌, ◌==◌, List, [], ◌∷◌, map, ℤ, Option, Some, None, slice_get, sym, ap, ◌∙◌, refl, subst, arith}
use Rattle.std.specs.List.{list_all}
use Rattle.std.proofs.Common.{pos, negsuc}
use Rattle.cg_model.specs.Covers.{near_cover}
use Rattle.cg_base.specs.declared.mode.Mode.{Mode}
use Rattle.cg_model.specs.Operators.{at_number}
use Rattle.std.proofs.lemmas.Bool.{false≢true, eqb-true}
use Rattle.cg_model.specs.declared.field.Field.{Field}
use Rattle.cg_model.specs.declared.insn.Insn.{Insn}
use Rattle.cg_model.specs.declared.machine.Machine.{Machine}
use Rattle.cg_model.specs.declared.rtl.Op.{Op}
use Rattle.cg_model.specs.declared.rtl.Op.TheVariants as op
use Rattle.cg_model.specs.declared.rtl.Rtl.{Rtl, roll-Rtl, Rtl-F, map-Rtl, fold-roll-Rtl, ind-Rtl}
use Rattle.cg_model.specs.Matching.{end_of, last_end, fields_of_parts, length_of}
use Rattle.cg_model.specs.Covers.{IsInWord, own_bits, all_bits, named_bits, asked_bits, AreInWords}
use Rattle.cg_model.specs.Sound.{is_among}
use Rattle.cg_model.specs.Sound.{allowed_step, is_allowed, names_among, is_plain, of_format}
use Rattle.cg_code_mask.proofs.Within.{last_within, near_low, zero_low, both_low}
use Rattle.cg_code_mask.proofs.Depending.{ArePlacedAmong, named_out}

first_true : (a b : Bool) → (a && b) ≡ true → a ≡ true
first_true true b e = refl
first_true false b e = e

second_true : (a b : Bool) → (a && b) ≡ true → b ≡ true
second_true true b e = e
second_true false b e = absurd (false≢true e)

one_of : (P : Type 0) (a b : Bool) → (a ≡ true → P) → (b ≡ true → P) → (a || b) ≡ true → P
one_of P true b f g e = f refl
one_of P false b f g e = g e

-- a field among others ends before the last of them does
among_ends : (m : Machine) (n : ℕ) (ks : List ℕ) → is_among n ks ≡ true → end_of (slice_get m.fields n) ≤ last_end m ks
among_ends m n [] h = absurd (false≢true h)
among_ends m n (k ∷ ks) h = one_of (end_of (slice_get m.fields n) ≤ last_end m (k ∷ ks)) (n == k) (is_among n ks)
    (λ same. let e : end_of (slice_get m.fields n) ≡ end_of (slice_get m.fields k) = ap (λ j. end_of (slice_get m.fields j)) (eqb-true n k same) in omega (arith, e))
    (λ later. omega (arith, among_ends m n ks later))
    h

-- those that end within 16 bytes are placed
pub placed_among : (m : Machine) (ks : List ℕ) → AreInWords m → last_end m ks ≤ 128 → ArePlacedAmong m ks
placed_among m ks at h = record {
  each = λ k f among is.
      let w : IsInWord f = at.each k f is in
      let end : end_of (slice_get m.fields k) ≡ f.word_offset + f.word_bits = ap end_of is in
      record { bytes = w.bytes; offset = w.offset; some = w.some; few = w.few; inside = omega (arith, among_ends m k ks among, h, end); own = w.own; within = w.within };
}

-- the field of a number among others
number_low : (m : Machine) (ks : List ℕ) (n : ℕ) (z : ℤ) → AreInWords m → last_end m ks ≤ 8 * n → names_among ks z ≡ true → near_cover m (at_number m.fields z) % 2 ^ (8 * (16 - n)) ≡ 0
number_low m ks n (pos z) at h among = near_low m (slice_get m.fields z) n (at.each z) (omega (arith, among_ends m z ks among))
number_low m ks n (negsuc z) at h among = zero_low (8 * (16 - n))

own_low : (m : Machine) (ks : List ℕ) (n : ℕ) (o : Op) (mode : Option Mode) (z : ℤ) → AreInWords m → last_end m ks ≤ 8 * n → of_format m ks o mode z ≡ true → own_bits m o z % 2 ^ (8 * (16 - n)) ≡ 0
own_low m ks n op.FieldRef mode z at h among = number_low m ks n z at h (first_true (names_among ks z) (is_plain m z) among)
own_low m ks n o mode z at h among = zero_low (8 * (16 - n))

Low : Machine → List ℕ → ℕ → Rtl → Type 0
Low m ks n r = is_allowed (of_format m ks) r ≡ true → named_bits m r % 2 ^ (8 * (16 - n)) ≡ 0

items_low : (m : Machine) (ks : List ℕ) (n : ℕ) (items : List ((r : Rtl) × Low m ks n r)) → list_all (λ b. b) (map (is_allowed (of_format m ks)) (map (λ e. e.0) items)) ≡ true
    → all_bits (map (named_bits m) (map (λ e. e.0) items)) % 2 ^ (8 * (16 - n)) ≡ 0
unfolding Low
items_low m ks n [] among = zero_low (8 * (16 - n))
items_low m ks n (e ∷ es) among =
    both_low (named_bits m e.0) _ (8 * (16 - n)) (e.1 (first_true (is_allowed (of_format m ks) e.0) _ among)) (items_low m ks n es (second_true (is_allowed (of_format m ks) e.0) _ among))

among_out : (m : Machine) (ks : List ℕ) (x : Rtl-F Rtl) → is_allowed (of_format m ks) (roll-Rtl x) ≡ (of_format m ks x.op x.mode x.number && list_all (λ b. b) (map (is_allowed (of_format m ks)) x.items))
unfolding is_allowed
among_out m ks x = fold-roll-Rtl Bool (allowed_step (of_format m ks)) x

low_step : (m : Machine) (ks : List ℕ) (n : ℕ) → AreInWords m → last_end m ks ≤ 8 * n → (x : Rtl-F Rtl) (y : Rtl-F ((r : Rtl) × Low m ks n r))
    → map-Rtl ((r : Rtl) × Low m ks n r) Rtl (λ e. e.0) y ≡ x → Low m ks n (roll-Rtl x)
unfolding Low
low_step m ks n at h x y is = subst (Low m ks n) (ap roll-Rtl is) (λ among.
    let z : Rtl-F Rtl = map-Rtl ((r : Rtl) × Low m ks n r) Rtl (λ e. e.0) y in
    let parts : (of_format m ks y.op y.mode y.number && list_all (λ b. b) (map (is_allowed (of_format m ks)) (map (λ e. e.0) y.items))) ≡ true = sym (among_out m ks z) ∙ among in
    ap (λ w. w % 2 ^ (8 * (16 - n))) (named_out m z)
    ∙ both_low (own_bits m y.op y.number) _ (8 * (16 - n))
    (own_low m ks n y.op y.mode y.number at h (first_true (of_format m ks y.op y.mode y.number) _ parts))
    (items_low m ks n y.items (second_true (of_format m ks y.op y.mode y.number) _ parts)))

-- The bits that an expression names lie in the first n bytes where the fields do that it may name.
pub named_low : (m : Machine) (ks : List ℕ) (n : ℕ) (r : Rtl) → AreInWords m → last_end m ks ≤ 8 * n → is_allowed (of_format m ks) r ≡ true → named_bits m r % 2 ^ (8 * (16 - n)) ≡ 0
unfolding Low
named_low m ks n r at h among = ind-Rtl (Low m ks n) (low_step m ks n at h) r among

asked_by : (m : Machine) (ks : List ℕ) (n : ℕ) (r : Option Rtl) → AreInWords m → last_end m ks ≤ 8 * n → ((rule : Rtl) → r ≡ Some rule → is_allowed (of_format m ks) rule ≡ true)
    → elim r [ None ↦ 0 | Some rule ↦ named_bits m rule ] % 2 ^ (8 * (16 - n)) ≡ 0
asked_by m ks n None at h among = zero_low (8 * (16 - n))
asked_by m ks n (Some rule) at h among = named_low m ks n rule at h (among rule refl)

-- What an instruction's assertion names lies in the instruction's own bytes.
pub asked_low : (m : Machine) (i : Insn) → AreInWords m → ((rule : Rtl) → i.assertion ≡ Some rule → is_allowed (of_format m (fields_of_parts m i.parts)) rule ≡ true) → asked_bits m i % 2 ^ (8 * (16 - length_of m i)) ≡ 0
asked_low m i at among = asked_by m (fields_of_parts m i.parts) (length_of m i) i.assertion at (last_within m i at) among
