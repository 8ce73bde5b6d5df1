-- An expression depends on nothing but the bits that it names.
use Rattle.std.proofs.Common.{◌≡◌, ℕ, ◌+◌, ◌≤◌, bit_and, bit_or, Bool, true, false, not, ◌==◌, ◌&&◌, nat_le, if◌then◌else◌, slice_get, List, [], ◌∷◌, map, ℤ, Option, Some, None, sym, ap, ◌∙◌, refl, subst, arith}
use Rattle.std.specs.List.{list_all}
use Rattle.std.proofs.lemmas.Bool.{false≢true}
use Rattle.std.proofs.lemmas.Bool.Decides.{nat_tests}
use Rattle.cg_model.specs.Operators.{at_number}
use Rattle.cg_model.specs.Sound.{is_among, names_among, is_plain, of_format, allowed_step, is_allowed}
use Rattle.std.specs.Int.{bit_at}
use Rattle.std.proofs.lemmas.Nat.Bits.{bit_at_and, bit_at_or, same_from_bits}
use Rattle.std.proofs.Common.{pos, negsuc}
use Rattle.cg_base.specs.declared.Mode.{Mode}
use Rattle.cg_model.specs.declared.field.Field.{Field}
use Rattle.cg_model.specs.declared.machine.Machine.{Machine}
use Rattle.cg_model.specs.declared.insn.Insn.{Insn}
use Rattle.cg_model.specs.Matching.{asserts, fields_of_parts}
use Rattle.cg_model.specs.declared.rtl.Op.{Op}
use Rattle.cg_model.specs.declared.rtl.Op.TheVariants as op
use Rattle.cg_model.specs.declared.rtl.Rtl.{Rtl, roll-Rtl, Rtl-F, map-Rtl, fold-roll-Rtl, ind-Rtl}
use Rattle.cg_model.specs.Values.{Meaning, at_once, meaning_step}
use Rattle.cg_model.specs.Pure.{pure_steps, pure_meaning, pure_value}
use Rattle.cg_model.proofs.Meanings.{pure_at}
use Rattle.cg_model.specs.Fields.{bits_at, decoded, field_value, around_fields}
use Rattle.cg_code_mask.specs.View.{whole}
use Rattle.cg_model.specs.Clashing.{AreBytes}
use Rattle.cg_model.specs.Covers.{IsInWord, IsPlaced, cover_of}
use Rattle.cg_model.specs.Covers.{near_cover, own_bits, all_bits, named_step, named_bits, asked_bits, AreInWords}
use Rattle.cg_code_mask.proofs.FieldLaws.{same_bits}

-- what two numbers share under some bits they share under a part of them
inner : (w x all part : ℕ) → bit_and part all ≡ part → bit_and w all ≡ bit_and x all → bit_and w part ≡ bit_and x part
inner w x all part e same =
    let turn : (y : ℕ) → bit_and y part ≡ bit_and (bit_and y all) part = λ y. same_from_bits _ _ (λ i.
    let one : bit_at (bit_and part all) i ≡ bit_at part i = ap (λ z. bit_at z i) e in
    simp bit_at_and (omega (arith, simp bit_at_and at one))) in
    turn w ∙ ap (λ z. bit_and z part) same ∙ sym (turn x)

in_left : (a b : ℕ) → bit_and a (bit_or a b) ≡ a
in_left a b = same_from_bits _ _ (λ i. simp (bit_at_and, bit_at_or) (omega arith))

in_right : (a b : ℕ) → bit_and b (bit_or a b) ≡ b
in_right a b = same_from_bits _ _ (λ i. simp (bit_at_and, bit_at_or) (omega arith))

-- two byte strings of which the whole shows the same under some bits
record SameUnder (xs ys : List ℕ) (bits : ℕ) : Type 0 where
  same : bit_and (whole xs) bits ≡ bit_and (whole ys) bits

left_under : (xs ys : List ℕ) (a b : ℕ) → SameUnder xs ys (bit_or a b) → SameUnder xs ys a
left_under xs ys a b h = record { same = inner (whole xs) (whole ys) (bit_or a b) a (in_left a b) h.same }

right_under : (xs ys : List ℕ) (a b : ℕ) → SameUnder xs ys (bit_or a b) → SameUnder xs ys b
right_under xs ys a b h = record { same = inner (whole xs) (whole ys) (bit_or a b) b (in_right a b) h.same }

-- fields of some numbers are placed
pub record ArePlacedAmong (m : Machine) (ks : List ℕ) : Type 0 where
  pub each : (k : ℕ) (f : Field) → is_among k ks ≡ true → slice_get m.fields k ≡ Some f → IsPlaced f

near_is : (m : Machine) (f : Field) → IsPlaced f → near_cover m (Some f) ≡ cover_of m f
near_is m f at = let near : nat_le (f.word_offset + f.word_bits) 128 ≡ true = (let le : f.word_offset + f.word_bits ≤ 128 = at.inside in grind (arith, nat_tests)) in ap (λ b. if b then cover_of m f else 0) near

-- a field, by what its bits decode to
same_decoded : (m : Machine) (f : Option Field) (xs ys : List ℕ) → ((g : Field) → f ≡ Some g → IsPlaced g) → AreBytes xs → AreBytes ys → SameUnder xs ys (near_cover m f)
    → elim f as (λ _. ℕ) [ None ↦ 0 | Some g ↦ decoded m g 0 (bits_at m g xs) ] ≡ elim f as (λ _. ℕ) [ None ↦ 0 | Some g ↦ decoded m g 0 (bits_at m g ys) ]
same_decoded m None xs ys at h k same = refl
same_decoded m (Some f) xs ys at h k same = ap (λ n. decoded m f 0 n) (same_bits m f xs ys (at f refl) h k (subst (λ c. bit_and (whole xs) c ≡ bit_and (whole ys) c) (near_is m f (at f refl)) same.same))

-- what a number names is in its word, and placed where it is one of some
pub in_word_at : (m : Machine) (n : ℤ) → AreInWords m → (g : Field) → at_number m.fields n ≡ Some g → IsInWord g
in_word_at m (pos n) at g e = at.each n g e
in_word_at m (negsuc n) at g e = absurd cc

placed_at : (m : Machine) (ks : List ℕ) (n : ℤ) → ArePlacedAmong m ks → names_among ks n ≡ true → (g : Field) → at_number m.fields n ≡ Some g → IsPlaced g
placed_at m ks (pos n) at among g e = at.each n g among e
placed_at m ks (negsuc n) at among g e = absurd cc

first_true : (a b : Bool) → (a && b) ≡ true → a ≡ true
first_true true b e = refl
first_true false b e = e

second_true : (a b : Bool) → (a && b) ≡ true → b ≡ true
second_true true b e = e
second_true false b e = absurd (false≢true e)

-- one layer
layer : Machine → List ℕ → Op → Option Mode → ℤ → List (Meaning ℕ) → Meaning ℕ
layer m bytes o mode n items = meaning_step m at_once (pure_steps m (around_fields m bytes 0)) (record { op = o; mode = mode; number = n; items = items })

same_layer : (m : Machine) (xs ys : List ℕ) (o : Op) (mode : Option Mode) (n : ℤ) (items : List (Meaning ℕ))
    → (o ≡ op.FieldRef → field_value m xs 0 n ≡ field_value m ys 0 n)
    → layer m xs o mode n items ≡ layer m ys o mode n items
unfolding layer
same_layer m xs ys op.FieldRef mode n items field = ap (λ v. record (layer m xs op.FieldRef mode n items) { gives = λ l want. v }) (field refl)
same_layer m xs ys o mode n items field = refl

-- an expression means the same to both
Same : Machine → List ℕ → List ℕ → List ℕ → Rtl → Type 0
Same m ks xs ys r = is_allowed (of_format m ks) r ≡ true → SameUnder xs ys (named_bits m r) → pure_meaning m (around_fields m xs 0) r ≡ pure_meaning m (around_fields m ys 0) r

same_items : (m : Machine) (ks xs ys : List ℕ) (items : List ((r : Rtl) × Same m ks xs ys r))
    → list_all (λ b. b) (map (is_allowed (of_format m ks)) (map (λ e. e.0) items)) ≡ true → SameUnder xs ys (all_bits (map (named_bits m) (map (λ e. e.0) items)))
    → map (pure_meaning m (around_fields m xs 0)) (map (λ e. e.0) items) ≡ map (pure_meaning m (around_fields m ys 0)) (map (λ e. e.0) items)
unfolding Same
same_items m ks xs ys [] ok same = refl
same_items m ks xs ys (e ∷ es) ok same =
    let first = e.1 (first_true (is_allowed (of_format m ks) e.0) _ ok) (left_under xs ys (named_bits m e.0) _ same) in
    let rest = same_items m ks xs ys es (second_true (is_allowed (of_format m ks) e.0) _ ok) (right_under xs ys (named_bits m e.0) _ same) in
    ap (λ x. x ∷ map (pure_meaning m (around_fields m xs 0)) (map (λ e. e.0) es)) first ∙ ap (λ x. pure_meaning m (around_fields m ys 0) e.0 ∷ x) rest

-- the equations of the two folds
meaning_out : (m : Machine) (bytes : List ℕ) (x : Rtl-F Rtl) → pure_meaning m (around_fields m bytes 0) (roll-Rtl x) ≡ layer m bytes x.op x.mode x.number (map (pure_meaning m (around_fields m bytes 0)) x.items)
unfolding layer
meaning_out m bytes x = pure_at m (around_fields m bytes 0) x.op x.mode x.number x.items

pub named_out : (m : Machine) (x : Rtl-F Rtl) → named_bits m (roll-Rtl x) ≡ bit_or (own_bits m x.op x.number) (all_bits (map (named_bits m) x.items))
unfolding named_bits
named_out m x = fold-roll-Rtl ℕ (named_step m) x

-- the field that a layer names
allowed_out : (m : Machine) (ks : List ℕ) (x : Rtl-F Rtl) → is_allowed (of_format m ks) (roll-Rtl x) ≡ (of_format m ks x.op x.mode x.number && list_all (λ b. b) (map (is_allowed (of_format m ks)) x.items))
unfolding is_allowed
allowed_out m ks x = fold-roll-Rtl Bool (allowed_step (of_format m ks)) x

same_field : (m : Machine) (ks xs ys : List ℕ) (o : Op) (mode : Option Mode) (n : ℤ) → ArePlacedAmong m ks → of_format m ks o mode n ≡ true → AreBytes xs → AreBytes ys → SameUnder xs ys (own_bits m o n) → o ≡ op.FieldRef
    → field_value m xs 0 n ≡ field_value m ys 0 n
same_field m ks xs ys o mode n at ok h k same is =
    let named : (names_among ks n && is_plain m n) ≡ true = subst (λ o. of_format m ks o mode n ≡ true) is ok in
    same_decoded m (at_number m.fields n) xs ys (placed_at m ks n at (first_true (names_among ks n) (is_plain m n) named)) h k
    (subst (λ o. SameUnder xs ys (own_bits m o n)) is same)

same_step : (m : Machine) (ks xs ys : List ℕ) → ArePlacedAmong m ks → AreBytes xs → AreBytes ys → (x : Rtl-F Rtl) (y : Rtl-F ((r : Rtl) × Same m ks xs ys r))
    → map-Rtl ((r : Rtl) × Same m ks xs ys r) Rtl (λ e. e.0) y ≡ x → Same m ks xs ys (roll-Rtl x)
unfolding Same
same_step m ks xs ys at h k x y is = subst (Same m ks xs ys) (ap roll-Rtl is) (λ ok same.
    let z : Rtl-F Rtl = map-Rtl ((r : Rtl) × Same m ks xs ys r) Rtl (λ e. e.0) y in
    let both : (of_format m ks y.op y.mode y.number && list_all (λ b. b) (map (is_allowed (of_format m ks)) (map (λ e. e.0) y.items))) ≡ true = sym (allowed_out m ks z) ∙ ok in
    let under : SameUnder xs ys (bit_or (own_bits m y.op y.number) (all_bits (map (named_bits m) (map (λ e. e.0) y.items)))) = subst (SameUnder xs ys) (named_out m z) same in
    let items = same_items m ks xs ys y.items (second_true (of_format m ks y.op y.mode y.number) _ both) (right_under xs ys (own_bits m y.op y.number) _ under) in
    let own = same_field m ks xs ys y.op y.mode y.number at (first_true (of_format m ks y.op y.mode y.number) _ both) h k (left_under xs ys (own_bits m y.op y.number) _ under) in
    meaning_out m xs z
    ∙ same_layer m xs ys y.op y.mode y.number (map (pure_meaning m (around_fields m xs 0)) (map (λ e. e.0) y.items)) own
    ∙ ap (layer m ys y.op y.mode y.number) items
    ∙ sym (meaning_out m ys z))

same_all : (m : Machine) (ks xs ys : List ℕ) → ArePlacedAmong m ks → AreBytes xs → AreBytes ys → (r : Rtl) → Same m ks xs ys r
same_all m ks xs ys at h k r = ind-Rtl (Same m ks xs ys) (same_step m ks xs ys at h k) r

-- An expression depends on nothing but the bits that it names.
pub same_meaning : (m : Machine) (ks xs ys : List ℕ) (r : Rtl) → ArePlacedAmong m ks → is_allowed (of_format m ks) r ≡ true → AreBytes xs → AreBytes ys → bit_and (whole xs) (named_bits m r) ≡ bit_and (whole ys) (named_bits m r)
    → pure_meaning m (around_fields m xs 0) r ≡ pure_meaning m (around_fields m ys 0) r
unfolding Same
same_meaning m ks xs ys r at ok h k same = same_all m ks xs ys at h k r ok (record { same = same })

assert_by : Machine → List ℕ → Option Rtl → Bool
assert_by m bytes assertion = elim assertion [ None ↦ true | Some rule ↦ not (pure_value m (around_fields m bytes 0) rule None == 0) ]

same_by : (m : Machine) (ks xs ys : List ℕ) (r : Option Rtl) → ArePlacedAmong m ks → ((rule : Rtl) → r ≡ Some rule → is_allowed (of_format m ks) rule ≡ true) → AreBytes xs → AreBytes ys
    → bit_and (whole xs) (elim r [ None ↦ 0 | Some rule ↦ named_bits m rule ]) ≡ bit_and (whole ys) (elim r [ None ↦ 0 | Some rule ↦ named_bits m rule ])
    → assert_by m xs r ≡ assert_by m ys r
unfolding assert_by
same_by m ks xs ys None at ok h k same = refl
same_by m ks xs ys (Some rule) at ok h k same = ap (λ (x : Meaning ℕ). not (x.gives [] None == 0)) (same_meaning m ks xs ys rule at (ok rule refl) h k same)

-- Whether an instruction's assertion holds depends on nothing but the bits that it names.
pub same_asserted : (m : Machine) (i : Insn) (xs ys : List ℕ) → ArePlacedAmong m (fields_of_parts m i.parts) → ((rule : Rtl) → i.assertion ≡ Some rule → is_allowed (of_format m (fields_of_parts m i.parts)) rule ≡ true) → AreBytes xs → AreBytes ys → bit_and (whole xs) (asked_bits m i) ≡ bit_and (whole ys) (asked_bits m i)
    → asserts m i xs ≡ asserts m i ys
unfolding assert_by
same_asserted m i xs ys at ok h k same = same_by m (fields_of_parts m i.parts) xs ys i.assertion at ok h k same
