-- What the parts of a format set: which bits, and that constants then stand.
use Rattle.std.proofs.Common.{◌≡◌, ℕ, suc, ◌+◌, ◌%◌, ◌^◌, ◌≤◌, min, max, bit_and, bit_or, Bool, true, false, ◌&&◌, ◌==◌, List, [], ◌∷◌, ◌++◌, length, map, Option, Some, None, slice_get, sym, ap, ◌∙◌, refl, subst, arith}
use Rattle.std.specs.Int.{bit_at}
use Rattle.std.specs.List.{list_all}
use Rattle.std.proofs.lemmas.Bool.{false≢true, eqb-true}
use Rattle.std.proofs.lemmas.Nat.{pow_pos, mod_below}
use Rattle.std.proofs.lemmas.Nat.Bits.{bit_at_and, bit_at_or, bit_at-zero, same_from_bits}
use Rattle.cg_base.specs.declared.mode.Mode.{Mode}
use Rattle.cg_model.specs.Clashing.{AreBytes}
use Rattle.cg_model.specs.Covers.{IsInWord, IsPlaced, cover_of, field_cover, fields_cover, covered_by, covered_by_all}
use Rattle.cg_model.specs.Encoding.{Setting, constant_setting, field_setting, inserted_setting, inserted, multi_settings, slot_settings, settings, with_all}
use Rattle.cg_model.specs.Fields.{bits_at}
use Rattle.cg_model.specs.Matching.{part_stands, fields_of_source, fields_of_part, fields_of_parts, end_of, last_end}
use Rattle.cg_code.proofs.Ends.{end_of_both}
use Rattle.cg_model.specs.Slots.{slots_of, slot_mode, source_value}
use Rattle.cg_model.specs.Sound.{IsSound, SoundMulti, AreApart, PartFits, is_there}
use Rattle.cg_model.specs.declared.field.Field.{Field}
use Rattle.cg_model.specs.declared.field.Multi.{Multi}
use Rattle.cg_model.specs.declared.insn.Part.{Part}
use Rattle.cg_model.specs.declared.insn.Part.TheVariants.{Constant, Slot}
use Rattle.cg_model.specs.declared.machine.Machine.{Machine}
use Rattle.cg_model.specs.declared.operand.Operand.{Operand}
use Rattle.cg_model.specs.declared.operand.Source.{Source}
use Rattle.cg_model.specs.declared.operand.Source.TheVariants as source
use Rattle.cg_model.specs.declared.rtl.Rtl.{Rtl}
use Rattle.cg_code.proofs.Settings.{set_in_turn, as_many}
use Rattle.cg_code_mask.specs.Constants.{field_placed, parts_cover, parts_value}
use Rattle.cg_code_mask.specs.View.{whole, placed}
use Rattle.cg_code_mask.proofs.FieldLaws.{placed_inside}
use Rattle.cg_code_mask.proofs.Puts.{set_back}
use Rattle.cg_code_laws.specs.Laws.{AreHeld, GoBack}
use Rattle.cg_code_laws.proofs.Putting.{whole_is_set}
use Rattle.cg_code_laws.proofs.Settings.{AreFine, covers, covers_both, fine_both, all_length, all_bytes, kept}

or_nothing : (a : ℕ) → bit_or a 0 ≡ a
or_nothing a = same_from_bits _ _ (λ q. simp (bit_at_or, bit_at-zero) (omega arith))

nothing_or : (a : ℕ) → bit_or 0 a ≡ a
nothing_or a = same_from_bits _ _ (λ q. simp (bit_at_or, bit_at-zero) (omega arith))

-- the operand of a slot
record Found (m : Machine) (k : ℕ) : Type 0 where
  operand : Operand
  is : slice_get m.operands k ≡ Some operand

found_in : (m : Machine) (k : ℕ) (o : Option Operand) → slice_get m.operands k ≡ o → is_there o ≡ true → Found m k
found_in m k None is h = absurd (false≢true h)
found_in m k (Some o) is h = record { operand = o; is = is }

found : (m : Machine) (k : ℕ) → PartFits m (Slot k) → Found m k
found m k h = found_in m k (slice_get m.operands k) refl h

-- what a slot sets, and its operand
settings_slot : (m : Machine) (pc k : ℕ) (ps : List Part) (v : ℕ) (vs : List ℕ) (o : Operand) → slice_get m.operands k ≡ Some o → settings m pc (Slot k ∷ ps) (v ∷ vs) ≡ slot_settings m pc o v ++ settings m pc ps vs
settings_slot m pc k ps v vs o is = ap (λ x. elim x as (λ _. List Setting) [ None ↦ settings m pc ps vs | Some y ↦ slot_settings m pc y v ++ settings m pc ps vs ]) is

slots_slot : (m : Machine) (k : ℕ) (ps : List Part) (o : Operand) → slice_get m.operands k ≡ Some o → slots_of m (Slot k ∷ ps) ≡ o ∷ slots_of m ps
slots_slot m k ps o is = ap (λ x. elim x as (λ _. List Operand) [ None ↦ slots_of m ps | Some y ↦ y ∷ slots_of m ps ]) is

covered_slot : (m : Machine) (k : ℕ) (o : Operand) → slice_get m.operands k ≡ Some o → covered_by m (Slot k) ≡ fields_cover m (fields_of_source m o.source)
covered_slot m k o is = ap (λ x. fields_cover m (elim x as (λ _. List ℕ) [ None ↦ [] | Some y ↦ fields_of_source m y.source ])) is

-- fields that are set are placed, and what they are set to fits
near_field : (m : Machine) (f : Field) (k : ℕ) → IsSound m → slice_get m.fields k ≡ Some f → f.word_offset + f.word_bits ≤ 128 → IsPlaced f
near_field m f k sound is h = let w : IsInWord f = (sound.fields k f is).placed in record { bytes = w.bytes; offset = w.offset; some = w.some; few = w.few; inside = h; own = w.own; within = w.within }

one_fine : (m : Machine) (f : Field) (k x : ℕ) → IsSound m → slice_get m.fields k ≡ Some f → f.word_offset + f.word_bits ≤ 128 → AreFine (record { field = f; bits = x % 2 ^ f.length } ∷ [])
unfolding AreFine
one_fine m f k x sound is near = (near_field m f k sound is near, mod_below x (2 ^ f.length) (pow_pos f.length), tt)

constant_fine : (m : Machine) (k c : ℕ) (o : Option Field) → IsSound m → slice_get m.fields k ≡ o → end_of o ≤ 128 → PartFits m (Constant k c) → AreFine (constant_setting o c)
unfolding AreFine
constant_fine m k c None sound is near h = tt
constant_fine m k c (Some f) sound is near h = (near_field m f k sound is near, h.1 f is, tt)

field_fine : (m : Machine) (pc : ℕ) (mode : Mode) (v k : ℕ) (o : Option Field) → IsSound m → slice_get m.fields k ≡ o → end_of o ≤ 128 → AreFine (field_setting m pc mode v o)
unfolding AreFine
field_fine m pc mode v k None sound is near = tt
field_fine m pc mode v k (Some f) sound is near = one_fine m f k _ sound is near

inserted_one_fine : (m : Machine) (pc v : ℕ) (rule : Rtl) (k : ℕ) (o : Option Field) → IsSound m → slice_get m.fields k ≡ o → end_of o ≤ 128 → AreFine (inserted_setting m pc v rule o)
unfolding AreFine
inserted_one_fine m pc v rule k None sound is near = tt
inserted_one_fine m pc v rule k (Some f) sound is near = one_fine m f k _ sound is near

inserted_fine : (m : Machine) (pc v : ℕ) (ks : List ℕ) (rules : List Rtl) → IsSound m → last_end m ks ≤ 128 → AreFine (inserted m pc v ks rules)
unfolding AreFine
inserted_fine m pc v [] rules sound near = tt
inserted_fine m pc v (k ∷ ks) [] sound near = tt
inserted_fine m pc v (k ∷ ks) (rule ∷ rules) sound near = fine_both _ _ (inserted_one_fine m pc v rule k (slice_get m.fields k) sound refl (omega (arith, near))) (inserted_fine m pc v ks rules sound (omega (arith, near)))

multi_fine : (m : Machine) (pc : ℕ) (mode : Mode) (v : ℕ) (o : Option Multi) → IsSound m → last_end m (elim o as (λ _. List ℕ) [ None ↦ [] | Some x ↦ x.subs ]) ≤ 128 → AreFine (multi_settings m pc mode v o)
unfolding AreFine
multi_fine m pc mode v None sound near = tt
multi_fine m pc mode v (Some x) sound near = inserted_fine m pc _ x.subs x.insert sound near

source_settings : Machine → ℕ → Mode → ℕ → Source → List Setting
source_settings m pc mode v (source.Field k) = field_setting m pc mode v (slice_get m.fields k)
source_settings m pc mode v (source.Multi k) = multi_settings m pc mode v (slice_get m.multis k)
source_settings m pc mode v (source.Fixed n) = []
source_settings m pc mode v source.None = []

by_source : (m : Machine) (pc : ℕ) (mode : Mode) (v : ℕ) (s : Source)
    → elim s as (λ _. List Setting) [ source.Field k ↦ field_setting m pc mode v (slice_get m.fields k) | source.Multi k ↦ multi_settings m pc mode v (slice_get m.multis k) | _ ↦ [] ] ≡ source_settings m pc mode v s
unfolding source_settings
by_source m pc mode v (source.Field k) = refl
by_source m pc mode v (source.Multi k) = refl
by_source m pc mode v (source.Fixed n) = refl
by_source m pc mode v source.None = refl

source_fine : (m : Machine) (pc : ℕ) (mode : Mode) (v : ℕ) (s : Source) → IsSound m → last_end m (fields_of_source m s) ≤ 128 → AreFine (source_settings m pc mode v s)
unfolding source_settings AreFine
source_fine m pc mode v (source.Field k) sound near = field_fine m pc mode v k (slice_get m.fields k) sound refl (omega (arith, near))
source_fine m pc mode v (source.Multi k) sound near = multi_fine m pc mode v (slice_get m.multis k) sound near
source_fine m pc mode v (source.Fixed n) sound near = tt
source_fine m pc mode v source.None sound near = tt

slot_fine : (m : Machine) (pc : ℕ) (o : Operand) (v : ℕ) → IsSound m → last_end m (fields_of_source m o.source) ≤ 128 → AreFine (slot_settings m pc o v)
slot_fine m pc o v sound near = subst AreFine (sym (by_source m pc (slot_mode m o) v o.source)) (source_fine m pc (slot_mode m o) v o.source sound near)

-- the ends of a format's first part and of the others
first_near : (m : Machine) (p : Part) (ps : List Part) → last_end m (fields_of_parts m (p ∷ ps)) ≤ 128 → last_end m (fields_of_part m p) ≤ 128
first_near m p ps near = omega (arith, near, end_of_both m (fields_of_part m p) (fields_of_parts m ps))

rest_near : (m : Machine) (p : Part) (ps : List Part) → last_end m (fields_of_parts m (p ∷ ps)) ≤ 128 → last_end m (fields_of_parts m ps) ≤ 128
rest_near m p ps near = omega (arith, near, end_of_both m (fields_of_part m p) (fields_of_parts m ps))

constant_near : (m : Machine) (k c : ℕ) (ps : List Part) → last_end m (fields_of_parts m (Constant k c ∷ ps)) ≤ 128 → end_of (slice_get m.fields k) ≤ 128
constant_near m k c ps near = omega (arith, first_near m (Constant k c) ps near)

slot_near : (m : Machine) (k : ℕ) (ps : List Part) (o : Operand) → slice_get m.operands k ≡ Some o → last_end m (fields_of_parts m (Slot k ∷ ps)) ≤ 128 → last_end m (fields_of_source m o.source) ≤ 128
slot_near m k ps o is near = omega (arith, first_near m (Slot k) ps near, ap (λ x. last_end m (elim x as (λ _. List ℕ) [ None ↦ [] | Some y ↦ fields_of_source m y.source ])) is)

pub parts_fine : (m : Machine) (pc : ℕ) (ps : List Part) (vs : List ℕ) → IsSound m → AreApart m ps → last_end m (fields_of_parts m ps) ≤ 128 → AreFine (settings m pc ps vs)
unfolding AreFine
parts_fine m pc [] vs sound h near = tt
parts_fine m pc (Constant k c ∷ ps) vs sound h near = fine_both _ _ (constant_fine m k c (slice_get m.fields k) sound refl (constant_near m k c ps near) h.0) (parts_fine m pc ps vs sound h.2 (rest_near m (Constant k c) ps near))
parts_fine m pc (Slot k ∷ ps) [] sound h near = tt
parts_fine m pc (Slot k ∷ ps) (v ∷ vs) sound h near = let x : Found m k = found m k h.0 in
    subst AreFine (sym (settings_slot m pc k ps v vs x.operand x.is)) (fine_both _ _ (slot_fine m pc x.operand v sound (slot_near m k ps x.operand x.is near)) (parts_fine m pc ps vs sound h.2 (rest_near m (Slot k) ps near)))

-- the bits that they cover are those of the format's parts
covers_constant : (m : Machine) (o : Option Field) (c : ℕ) → covers m (constant_setting o c) ≡ bit_or (field_cover m o) 0
unfolding covers
covers_constant m None c = sym (or_nothing 0)
covers_constant m (Some f) c = refl

covers_field : (m : Machine) (pc : ℕ) (mode : Mode) (v : ℕ) (o : Option Field) → covers m (field_setting m pc mode v o) ≡ bit_or (field_cover m o) 0
unfolding covers
covers_field m pc mode v None = sym (or_nothing 0)
covers_field m pc mode v (Some f) = refl

covers_one : (m : Machine) (pc v : ℕ) (rule : Rtl) (o : Option Field) → covers m (inserted_setting m pc v rule o) ≡ bit_or (field_cover m o) 0
unfolding covers
covers_one m pc v rule None = sym (or_nothing 0)
covers_one m pc v rule (Some f) = refl

covers_inserted : (m : Machine) (pc v : ℕ) (ks : List ℕ) (rules : List Rtl) → length rules ≡ length ks → covers m (inserted m pc v ks rules) ≡ fields_cover m ks
unfolding covers
covers_inserted m pc v [] rules same = refl
covers_inserted m pc v (k ∷ ks) [] same = absurd (omega (arith, same))
covers_inserted m pc v (k ∷ ks) (rule ∷ rules) same =
    covers_both m (inserted_setting m pc v rule (slice_get m.fields k)) (inserted m pc v ks rules)
    ∙ ap (λ x. bit_or x (covers m (inserted m pc v ks rules))) (covers_one m pc v rule (slice_get m.fields k) ∙ or_nothing (field_cover m (slice_get m.fields k)))
    ∙ ap (bit_or (field_cover m (slice_get m.fields k))) (covers_inserted m pc v ks rules (omega (arith, same)))

covers_multi : (m : Machine) (pc : ℕ) (mode : Mode) (v : ℕ) (o : Option Multi) → ((x : Multi) → o ≡ Some x → SoundMulti m x) → covers m (multi_settings m pc mode v o) ≡ fields_cover m (elim o as (λ _. List ℕ) [ None ↦ [] | Some x ↦ x.subs ])
unfolding covers
covers_multi m pc mode v None sound = refl
covers_multi m pc mode v (Some x) sound = covers_inserted m pc _ x.subs x.insert (as_many m x.mode x.subs x.insert (sound x refl).insert)

covers_source : (m : Machine) (pc : ℕ) (mode : Mode) (v : ℕ) (s : Source) → IsSound m → covers m (source_settings m pc mode v s) ≡ fields_cover m (fields_of_source m s)
unfolding source_settings covers
covers_source m pc mode v (source.Field k) sound = covers_field m pc mode v (slice_get m.fields k)
covers_source m pc mode v (source.Multi k) sound = covers_multi m pc mode v (slice_get m.multis k) (sound.multis k)
covers_source m pc mode v (source.Fixed n) sound = refl
covers_source m pc mode v source.None sound = refl

covers_slot : (m : Machine) (pc : ℕ) (o : Operand) (v : ℕ) → IsSound m → covers m (slot_settings m pc o v) ≡ fields_cover m (fields_of_source m o.source)
covers_slot m pc o v sound = ap (covers m) (by_source m pc (slot_mode m o) v o.source) ∙ covers_source m pc (slot_mode m o) v o.source sound

pub covers_parts : (m : Machine) (pc : ℕ) (ps : List Part) (vs : List ℕ) → IsSound m → AreApart m ps → length vs ≡ length (slots_of m ps) → covers m (settings m pc ps vs) ≡ covered_by_all m ps
unfolding covers
covers_parts m pc [] vs sound h same = refl
covers_parts m pc (Constant k c ∷ ps) vs sound h same =
    covers_both m (constant_setting (slice_get m.fields k) c) (settings m pc ps vs)
    ∙ ap (λ x. bit_or x (covers m (settings m pc ps vs))) (covers_constant m (slice_get m.fields k) c)
    ∙ ap (bit_or (bit_or (field_cover m (slice_get m.fields k)) 0)) (covers_parts m pc ps vs sound h.2 same)
covers_parts m pc (Slot k ∷ ps) [] sound h same =
    let x : Found m k = found m k h.0 in
    let none : 0 ≡ suc (length (slots_of m ps)) = same ∙ ap length (slots_slot m k ps x.operand x.is) in
    absurd (omega (arith, none))
covers_parts m pc (Slot k ∷ ps) (v ∷ vs) sound h same =
    let x : Found m k = found m k h.0 in
    let rest : suc (length vs) ≡ suc (length (slots_of m ps)) = same ∙ ap length (slots_slot m k ps x.operand x.is) in
    ap (covers m) (settings_slot m pc k ps v vs x.operand x.is)
    ∙ covers_both m (slot_settings m pc x.operand v) (settings m pc ps vs)
    ∙ ap (λ y. bit_or y (covers m (settings m pc ps vs))) (covers_slot m pc x.operand v sound ∙ sym (covered_slot m k x.operand x.is))
    ∙ ap (bit_or (covered_by m (Slot k))) (covers_parts m pc ps vs sound h.2 (omega (arith, rest)))

-- constants stand in what was set
join : (w c d v u : ℕ) → bit_and w c ≡ v → bit_and w d ≡ u → bit_and w (bit_or c d) ≡ bit_or v u
join w c d v u e f = same_from_bits _ _ (λ i.
    let one : min (bit_at w i) (bit_at c i) ≡ bit_at v i = sym (bit_at_and w c i) ∙ ap (λ x. bit_at x i) e in
    let two : min (bit_at w i) (bit_at d i) ≡ bit_at u i = sym (bit_at_and w d i) ∙ ap (λ x. bit_at x i) f in
    simp (bit_at_and, bit_at_or) (omega (arith, one, two)))

no_bits : (w : ℕ) → bit_and w 0 ≡ 0
no_bits w = same_from_bits _ _ (λ i. simp (bit_at_and, bit_at-zero) (omega arith))

constant_there : (m : Machine) (o : Option Field) (c : ℕ) (bytes : List ℕ) → AreFine (constant_setting o c) → length bytes ≡ 16 → AreBytes bytes → bit_and (whole (with_all m (constant_setting o c) bytes)) (field_cover m o) ≡ field_placed m o c
unfolding AreFine
constant_there m None c bytes h long are = no_bits (whole bytes)
constant_there m (Some f) c bytes h long are = ap (λ w. bit_and w (cover_of m f)) (whole_is_set m f c bytes h.0 h.1 long are) ∙ set_back (cover_of m f) (placed m f c) (whole bytes) (placed_inside m f c h.0 h.1)

apart_turned : (a b : ℕ) → bit_and (bit_or a 0) b ≡ 0 → bit_and b a ≡ 0
apart_turned a b e = same_from_bits _ _ (λ q.
    let none : min (max (bit_at a q) 0) (bit_at b q) ≡ 0 = simp (bit_at_and, bit_at_or, bit_at-zero) at (ap (λ x. bit_at x q) e) in
    simp (bit_at_and, bit_at-zero) (omega (arith, none)))

pub constants_stand : (m : Machine) (pc : ℕ) (ps : List Part) (vs bytes : List ℕ) → IsSound m → AreApart m ps → last_end m (fields_of_parts m ps) ≤ 128 → length vs ≡ length (slots_of m ps) → length bytes ≡ 16 → AreBytes bytes
    → bit_and (whole (with_all m (settings m pc ps vs) bytes)) (parts_cover m ps) ≡ parts_value m ps
constants_stand m pc [] vs bytes sound h near same long are = no_bits (whole bytes)
constants_stand m pc (Constant k c ∷ ps) vs bytes sound h near same long are =
    let o : Option Field = slice_get m.fields k in
    let fine : AreFine (constant_setting o c) = constant_fine m k c o sound refl (constant_near m k c ps near) h.0 in
    let rest : List Setting = settings m pc ps vs in
    let after : List ℕ = with_all m (constant_setting o c) bytes in
    let long2 : length after ≡ 16 = all_length m (constant_setting o c) bytes fine long in
    let are2 : AreBytes after = all_bytes m (constant_setting o c) bytes fine long are in
    let apart : bit_and (covers m rest) (field_cover m o) ≡ 0 = ap (λ x. bit_and x (field_cover m o)) (covers_parts m pc ps vs sound h.2 same) ∙ apart_turned (field_cover m o) (covered_by_all m ps) h.1 in
    ap (λ xs. bit_and (whole xs) (bit_or (field_cover m o) (parts_cover m ps))) (set_in_turn m (constant_setting o c) rest bytes)
    ∙ join (whole (with_all m rest after)) (field_cover m o) (parts_cover m ps) (field_placed m o c) (parts_value m ps)
    (kept m rest after (field_cover m o) (parts_fine m pc ps vs sound h.2 (rest_near m (Constant k c) ps near)) long2 are2 apart ∙ constant_there m o c bytes fine long are)
    (constants_stand m pc ps vs after sound h.2 (rest_near m (Constant k c) ps near) same long2 are2)
constants_stand m pc (Slot k ∷ ps) [] bytes sound h near same long are =
    let x : Found m k = found m k h.0 in
    let none : 0 ≡ suc (length (slots_of m ps)) = same ∙ ap length (slots_slot m k ps x.operand x.is) in
    absurd (omega (arith, none))
constants_stand m pc (Slot k ∷ ps) (v ∷ vs) bytes sound h near same long are =
    let x : Found m k = found m k h.0 in
    let rest : suc (length vs) ≡ suc (length (slots_of m ps)) = same ∙ ap length (slots_slot m k ps x.operand x.is) in
    let fine : AreFine (slot_settings m pc x.operand v) = slot_fine m pc x.operand v sound (slot_near m k ps x.operand x.is near) in
    let after : List ℕ = with_all m (slot_settings m pc x.operand v) bytes in
    ap (λ xs. bit_and (whole (with_all m xs bytes)) (bit_or 0 (parts_cover m ps))) (settings_slot m pc k ps v vs x.operand x.is)
    ∙ ap (λ xs. bit_and (whole xs) (bit_or 0 (parts_cover m ps))) (set_in_turn m (slot_settings m pc x.operand v) (settings m pc ps vs) bytes)
    ∙ ap (bit_and (whole (with_all m (settings m pc ps vs) after))) (nothing_or (parts_cover m ps))
    ∙ constants_stand m pc ps vs after sound h.2 (rest_near m (Slot k) ps near) (omega (arith, rest)) (all_length m (slot_settings m pc x.operand v) bytes fine long) (all_bytes m (slot_settings m pc x.operand v) bytes fine long are)
    ∙ sym (nothing_or (parts_value m ps))

-- fields hold what they would be set to where constants stand and slots go back
held_both : (m : Machine) (bytes : List ℕ) (xs ys : List Setting) → AreHeld m bytes xs → AreHeld m bytes ys → AreHeld m bytes (xs ++ ys)
held_both m bytes [] ys h k = k
held_both m bytes (x ∷ xs) ys h k = (h.0, held_both m bytes xs ys h.1 k)

constant_held : (m : Machine) (bytes : List ℕ) (o : Option Field) (c : ℕ) → elim o as (λ _. Bool) [ None ↦ true | Some f ↦ bits_at m f bytes == c ] ≡ true → AreHeld m bytes (constant_setting o c)
constant_held m bytes None c h = tt
constant_held m bytes (Some f) c h = (eqb-true (bits_at m f bytes) c h, tt)

first_true : (a b : Bool) → (a && b) ≡ true → a ≡ true
first_true true b e = refl
first_true false b e = e

second_true : (a b : Bool) → (a && b) ≡ true → b ≡ true
second_true true b e = e
second_true false b e = absurd (false≢true e)

pub parts_held : (m : Machine) (pc : ℕ) (ps : List Part) (bytes : List ℕ) → AreApart m ps → list_all (part_stands m bytes) ps ≡ true → GoBack m bytes pc (slots_of m ps) → AreHeld m bytes (settings m pc ps (map (source_value m bytes pc) (slots_of m ps)))
parts_held m pc [] bytes h stand back = tt
parts_held m pc (Constant k c ∷ ps) bytes h stand back =
    held_both m bytes _ _ (constant_held m bytes (slice_get m.fields k) c (first_true (part_stands m bytes (Constant k c)) _ stand))
    (parts_held m pc ps bytes h.2 (second_true (part_stands m bytes (Constant k c)) _ stand) back)
parts_held m pc (Slot k ∷ ps) bytes h stand back =
    let x : Found m k = found m k h.0 in
    let values : List ℕ = map (source_value m bytes pc) (slots_of m ps) in
    let both : GoBack m bytes pc (x.operand ∷ slots_of m ps) = subst (GoBack m bytes pc) (slots_slot m k ps x.operand x.is) back in
    let row : settings m pc (Slot k ∷ ps) (map (source_value m bytes pc) (slots_of m (Slot k ∷ ps))) ≡ slot_settings m pc x.operand (source_value m bytes pc x.operand) ++ settings m pc ps values =
    ap (λ os. settings m pc (Slot k ∷ ps) (map (source_value m bytes pc) os)) (slots_slot m k ps x.operand x.is)
    ∙ settings_slot m pc k ps (source_value m bytes pc x.operand) values x.operand x.is in
    subst (AreHeld m bytes) (sym row) (held_both m bytes (slot_settings m pc x.operand (source_value m bytes pc x.operand)) (settings m pc ps values) both.0 (parts_held m pc ps bytes h.2 stand both.1))
