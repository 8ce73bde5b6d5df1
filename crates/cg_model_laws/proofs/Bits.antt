-- The bits that fields cover, and those that an expression names, where the fields lie in their words.
use Rattle.std.proofs.Common.{◌≡◌, ℕ, ◌+◌, ◌*◌, ◌/◌, ◌≤◌, Bool, true, false, not, ◌&&◌, ◌==◌, nat_le, bit_and, bit_or, if◌then◌else◌, List, [], ◌∷◌, map, ℤ, pos, negsuc, Option, Some, None, slice_get, sym, ap, ◌∙◌, refl, subst, arith}
use Rattle.std.proofs.lemmas.Bool.{false≢true, eqb-true, eq-eqb}
use Rattle.std.proofs.lemmas.Bool.Decides.{nat_tests}
use Rattle.std.proofs.lemmas.Nat.Bits.{bit_at_or, bit_at_and, bit_at-zero, same_from_bits}
use Rattle.cg_model.specs.Covers.{IsInWord, AreInWords, is_near, cover_of, field_cover, fields_cover, near_cover, own_bits, all_bits, named_step, named_bits}
use Rattle.cg_model.specs.Matching.{end_of, last_end}
use Rattle.cg_model.specs.Operators.{at_number}
use Rattle.cg_model.specs.declared.field.Field.{Field}
use Rattle.cg_model.specs.declared.machine.Machine.{Machine}
use Rattle.cg_model.specs.declared.rtl.Op.{Op}
use Rattle.cg_model.specs.declared.rtl.Op.TheVariants as op
use Rattle.cg_model.specs.declared.rtl.Rtl.{Rtl, roll-Rtl, Rtl-F, map-Rtl, fold-roll-Rtl, ind-Rtl}
use Rattle.cg_model_faults.specs.E310.{meets, is_placed, bits_covered, first_meeting, first_two}
use Rattle.cg_model_faults.specs.E315.{bits_at_number, bits_at_op, bits_step, bits_named}
use Rattle.cg_model_laws.proofs.Clear.{Each}

no_bit : (a : ℕ) → bit_and a 0 ≡ 0
no_bit a = same_from_bits _ _ (λ i. simp (bit_at_and, bit_at-zero) (omega arith))

of_none : (a : ℕ) → bit_and 0 a ≡ 0
of_none a = same_from_bits _ _ (λ i. simp (bit_at_and, bit_at-zero) (omega arith))

and_or : (a b c : ℕ) → bit_and a (bit_or b c) ≡ bit_or (bit_and a b) (bit_and a c)
and_or a b c = same_from_bits _ _ (λ i. simp (bit_at_and, bit_at_or) (omega arith))

or_and : (a b c : ℕ) → bit_and (bit_or a b) c ≡ bit_or (bit_and a c) (bit_and b c)
or_and a b c = same_from_bits _ _ (λ i. simp (bit_at_and, bit_at_or) (omega arith))

zero_or : (a : ℕ) → bit_or 0 a ≡ a
zero_or a = same_from_bits _ _ (λ i. simp (bit_at_or, bit_at-zero) (omega arith))

-- what meets neither of two
pub apart_from_both : (a b c : ℕ) → bit_and a b ≡ 0 → bit_and a c ≡ 0 → bit_and a (bit_or b c) ≡ 0
apart_from_both a b c first second = and_or a b c ∙ ap (λ x. bit_or x (bit_and a c)) first ∙ zero_or (bit_and a c) ∙ second

both_apart : (a b c : ℕ) → bit_and a c ≡ 0 → bit_and b c ≡ 0 → bit_and (bit_or a b) c ≡ 0
both_apart a b c first second = or_and a b c ∙ ap (λ x. bit_or x (bit_and b c)) first ∙ zero_or (bit_and b c) ∙ second

seven : (a b c d n e g : Bool) → a ≡ true → b ≡ true → c ≡ true → d ≡ true → e ≡ true → g ≡ true → (a && b && c && d && n && e && g) ≡ n
seven a b c d n e g ha hb hc hd he hg = rw (ha, hb, hc, hd, he, hg) (last n) where
  last : (x : Bool) → (true && true && true && true && x && true && true) ≡ x
  last true = refl
  last false = refl

at_most : (a b : ℕ) → a ≤ b → nat_le a b ≡ true
at_most a b h = grind (arith, nat_tests)

-- a field that lies in its word has its place where the word lies within 16 bytes
placed_near : (f : Field) → IsInWord f → is_placed f ≡ is_near f
placed_near f w =
    seven (f.word_bits == 8 * (f.word_bits / 8)) (f.word_offset == 8 * (f.word_offset / 8)) (nat_le 8 f.word_bits) (nat_le f.word_bits 64) (is_near f) (nat_le 1 f.length) (nat_le (f.shift + f.length) f.word_bits)
    (eq-eqb f.word_bits (8 * (f.word_bits / 8)) w.bytes) (eq-eqb f.word_offset (8 * (f.word_offset / 8)) w.offset) (at_most 8 f.word_bits w.some) (at_most f.word_bits 64 w.few) (at_most 1 f.length w.own) (at_most (f.shift + f.length) f.word_bits w.within)

abbrev covered_where : Machine → Option Field → ℕ
covered_where m None = 0
covered_where m (Some f) = if is_placed f then cover_of m f else 0

covers_where : (m : Machine) (o : Option Field) → ((f : Field) → o ≡ Some f → IsInWord f) → end_of o ≤ 128 → covered_where m o ≡ field_cover m o
covers_where m None words near = refl
covers_where m (Some f) words near = ap (λ b. if b then cover_of m f else 0) (placed_near f (words f refl) ∙ at_most (f.word_offset + f.word_bits) 128 near)

-- some fields cover the bits that they do by their places
abbrev pub Covering : Machine → List ℕ → Type 0
Covering m ks = Each (λ k. bits_covered m k ≡ field_cover m (slice_get m.fields k)) ks

pub covering : (m : Machine) → AreInWords m → (ks : List ℕ) → last_end m ks ≤ 128 → Covering m ks
covering m words [] near = tt
covering m words (k ∷ ks) near = (covers_where m (slice_get m.fields k) (words.each k) (omega (arith, near)), covering m words ks (omega (arith, near)))

not_meeting : (a b : ℕ) → meets a b ≡ false → bit_and a b ≡ 0
not_meeting a b h = eqb-true (bit_and a b) 0 (of_not (bit_and a b == 0) h) where
  of_not : (x : Bool) → not x ≡ false → x ≡ true
  of_not true e = refl
  of_not false e = absurd (false≢true (sym e))

abbrev is_none : {A : Type 0} → Option A → Bool
is_none None = true
is_none (Some x) = false

pub some_none : {A : Type 0} (x : A) → Some x ≡ None → ⊥
some_none x e = false≢true (ap is_none e)

-- bits that none of some fields covers
one_apart : (m : Machine) (bits : ℕ) (ks : List ℕ) → Covering m ks → first_meeting m bits ks ≡ None → bit_and bits (fields_cover m ks) ≡ 0
one_apart m bits [] covers h = no_bit bits
one_apart m bits (k ∷ ks) covers h = by (meets bits (bits_covered m k)) refl h (one_apart m bits ks covers.1) where
  by : (b : Bool) → meets bits (bits_covered m k) ≡ b → (if b then Some k else first_meeting m bits ks) ≡ None → (first_meeting m bits ks ≡ None → bit_and bits (fields_cover m ks) ≡ 0) → bit_and bits (fields_cover m (k ∷ ks)) ≡ 0
  by true e none later = absurd (some_none k none)
  by false e none later = apart_from_both bits (field_cover m (slice_get m.fields k)) (fields_cover m ks) (sym (ap (bit_and bits) covers.0) ∙ not_meeting bits (bits_covered m k) e) (later none)

-- no field of one list covers a bit that one of the other does
pub all_apart : (m : Machine) (js ks : List ℕ) → Covering m js → Covering m ks → first_two m js ks ≡ None → bit_and (fields_cover m js) (fields_cover m ks) ≡ 0
all_apart m [] ks first second h = of_none (fields_cover m ks)
all_apart m (j ∷ js) ks first second h = by (first_meeting m (bits_covered m j) ks) refl h (all_apart m js ks first.1 second) where
  by : (o : Option ℕ) → first_meeting m (bits_covered m j) ks ≡ o → elim o as (λ _. Option (ℕ × ℕ)) [ Some k ↦ Some (j, k) | None ↦ first_two m js ks ] ≡ None → (first_two m js ks ≡ None → bit_and (fields_cover m js) (fields_cover m ks) ≡ 0) → bit_and (fields_cover m (j ∷ js)) (fields_cover m ks) ≡ 0
  by (Some k) e none later = absurd (some_none (j, k) none)
  by None e none later =
      both_apart (field_cover m (slice_get m.fields j)) (fields_cover m js) (fields_cover m ks)
      (sym (ap (λ x. bit_and x (fields_cover m ks)) first.0) ∙ one_apart m (bits_covered m j) ks second e)
      (later none)

-- the bits that an expression names
number_same : (m : Machine) → AreInWords m → (n : ℤ) → bits_at_number m n ≡ near_cover m (at_number m.fields n)
number_same m words (negsuc k) = refl
number_same m words (pos k) = by (slice_get m.fields k) (words.each k) where
  by : (o : Option Field) → ((f : Field) → o ≡ Some f → IsInWord f) → covered_where m o ≡ near_cover m o
  by None own = refl
  by (Some f) own = ap (λ b. if b then cover_of m f else 0) (placed_near f (own f refl))

op_same : (m : Machine) → AreInWords m → (o : Op) (n : ℤ) → bits_at_op m o n ≡ own_bits m o n
unfolding bits_at_op
op_same m words op.FieldRef n = number_same m words n
op_same m words o n = refl

bits_out : (m : Machine) (x : Rtl-F Rtl) → bits_named m (roll-Rtl x) ≡ bit_or (bits_at_op m x.op x.number) (all_bits (map (bits_named m) x.items))
unfolding bits_named
bits_out m x = fold-roll-Rtl ℕ (bits_step m) x

named_out : (m : Machine) (x : Rtl-F Rtl) → named_bits m (roll-Rtl x) ≡ bit_or (own_bits m x.op x.number) (all_bits (map (named_bits m) x.items))
unfolding named_bits
named_out m x = fold-roll-Rtl ℕ (named_step m) x

unfoldable Same : Machine → Rtl → Type 0
Same m r = bits_named m r ≡ named_bits m r

items_same : (m : Machine) (items : List ((r : Rtl) × Same m r)) → map (bits_named m) (map (λ e. e.0) items) ≡ map (named_bits m) (map (λ e. e.0) items)
unfolding Same
items_same m [] = refl
items_same m (e ∷ es) = ap (λ n. n ∷ map (bits_named m) (map (λ e. e.0) es)) e.1 ∙ ap (λ ns. named_bits m e.0 ∷ ns) (items_same m es)

step_same : (m : Machine) → AreInWords m → (x : Rtl-F Rtl) (y : Rtl-F ((r : Rtl) × Same m r)) → map-Rtl ((r : Rtl) × Same m r) Rtl (λ e. e.0) y ≡ x → Same m (roll-Rtl x)
unfolding Same
step_same m words x y is = subst (Same m) (ap roll-Rtl is) (
    let z : Rtl-F Rtl = map-Rtl ((r : Rtl) × Same m r) Rtl (λ e. e.0) y in
    bits_out m z
    ∙ ap (λ n. bit_or n (all_bits (map (bits_named m) z.items))) (op_same m words z.op z.number)
    ∙ ap (λ ns. bit_or (own_bits m z.op z.number) (all_bits ns)) (items_same m y.items)
    ∙ sym (named_out m z))

pub named_same : (m : Machine) → AreInWords m → (r : Rtl) → bits_named m r ≡ named_bits m r
unfolding Same
named_same m words r = ind-Rtl (Same m) (step_same m words) r
