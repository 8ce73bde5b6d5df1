-- The value of a plain field goes back where its slot is wide enough.
use Rattle.std.proofs.Common.{◌≡◌, ℕ, ◌+◌, ◌-◌, ◌*◌, ◌/◌, ◌%◌, ◌^◌, ◌<◌, ◌≤◌, Bool, true, false, ◌==◌, ◌||◌, nat_lt, if◌then◌else◌, List, [], ◌∷◌, Some, None, slice_get, ℤ, pos, ◌+ℤ◌, ◌-ℤ◌, unsigned_abs, sym, ap, ◌∙◌, refl, subst, arith}
use Rattle.std.proofs.lemmas.Int.{int_rem_euclid_is, ints}
use Rattle.std.proofs.lemmas.Nat.{pow_pos, pow-add, mod_below}
use Rattle.std.proofs.Math.Pow.{mod-mod-pow}
use Rattle.std.proofs.Math.Nat.{mod-eq_of_lt, add-mul-mod_self_right}
use Rattle.cg_base.specs.declared.mode.Mode.{Mode}
use Rattle.cg_base.specs.Modes.{bits_of, is_signed}
use Rattle.cg_base.specs.Operations.{wrapped, converted}
use Rattle.cg_model.specs.Encoding.{Setting, setting_of, coded, field_setting, multi_settings, slot_settings, ruled}
use Rattle.cg_model.specs.Fields.{bits_at, word_of, extended, decoded, field_value, multi_value, around_value}
use Rattle.cg_model.specs.Pure.{pure_value}
use Rattle.cg_model.specs.Slots.{slot_mode, field_as, multi_as, fixed_value, source_value}
use Rattle.cg_model.specs.Sound.{IsSound}
use Rattle.cg_model.specs.declared.field.Field.{Field}
use Rattle.cg_model.specs.declared.machine.Machine.{Machine}
use Rattle.cg_model.specs.declared.operand.Operand.{Operand}
use Rattle.cg_model.specs.declared.operand.Source.TheVariants as source
use Rattle.cg_code_laws.specs.Laws.{AreHeld, IsPlain}

-- the lowest bits of a number modulo 2 ^ k
low_of_wrapped : (k l q m : ℕ) (z : ℤ) → l ≤ k → z +ℤ pos (q * 2 ^ k) ≡ pos m → wrapped k z % 2 ^ l ≡ m % 2 ^ l
low_of_wrapped k l q m z le e =
    let at : k - l + l ≡ k = omega arith in
    let low : m % 2 ^ k % 2 ^ l ≡ m % 2 ^ l = ap (λ n. m % 2 ^ n % 2 ^ l) (sym at) ∙ mod-mod-pow m (k - l) l in
    ap (λ x. unsigned_abs x % 2 ^ l) (int_rem_euclid_is z (pos (2 ^ k)) (2 ^ k) q m (pow_pos k) refl e) ∙ low

low_of_natural : (k l n : ℕ) → l ≤ k → wrapped k (pos n) % 2 ^ l ≡ n % 2 ^ l
low_of_natural k l n le = low_of_wrapped k l 0 n (pos n) le (omega (arith, ints))

spread : (x a : ℕ) → x * (a + 1) ≡ x * a + x
spread x a = omega arith

swapped : (x y a : ℕ) → x * y * a ≡ x * a * y
swapped x y a = omega arith

low_of_less : (k j l n : ℕ) → l ≤ k → l ≤ j → wrapped k (pos n -ℤ pos (2 ^ j)) % 2 ^ l ≡ n % 2 ^ l
low_of_less k j l n le lt =
    let a : ℕ = 2 ^ k - 1 in
    let high : ℕ = 2 ^ (j - l) in
    let whole : 2 ^ k ≡ a + 1 = omega (arith, pow_pos k) in
    let at : j - l + l ≡ j = omega arith in
    let split : 2 ^ j ≡ high * 2 ^ l = ap (λ n. 2 ^ n) (sym at) ∙ pow-add 2 (j - l) l in
    let more : 2 ^ j * 2 ^ k ≡ 2 ^ j * a + 2 ^ j = ap (λ x. 2 ^ j * x) whole ∙ spread (2 ^ j) a in
    let turned : 2 ^ j * a ≡ high * a * 2 ^ l = ap (λ x. x * a) split ∙ swapped high (2 ^ l) a in
    low_of_wrapped k l (2 ^ j) (n + high * a * 2 ^ l) (pos n -ℤ pos (2 ^ j)) le (omega (arith, ints, more, turned)) ∙ add-mul-mod_self_right n (high * a) (2 ^ l)

-- so a sign doesn't matter to them
low_of_either : (b c : Bool) (k j l n : ℕ) → l ≤ k → l ≤ j → wrapped k (if b then (if c then pos n else pos n -ℤ pos (2 ^ j)) else pos n) % 2 ^ l ≡ n % 2 ^ l
low_of_either true true k j l n le lt = low_of_natural k l n le
low_of_either true false k j l n le lt = low_of_less k j l n le lt
low_of_either false true k j l n le lt = low_of_natural k l n le
low_of_either false false k j l n le lt = low_of_natural k l n le

converted_low : (from to : Mode) (l a : ℕ) → l ≤ bits_of from → l ≤ bits_of to → converted from to a % 2 ^ l ≡ a % 2 ^ l
converted_low from to l a le lt = low_of_either (is_signed from) (bits_of from == 1 || nat_lt a (2 ^ (bits_of from - 1))) (bits_of to) (bits_of from) l a lt le

extended_low : (f : Field) (n : ℕ) → f.length ≤ bits_of f.mode → extended f n % 2 ^ f.length ≡ n % 2 ^ f.length
extended_low f n le = low_of_either (is_signed f.mode) (nat_lt n (2 ^ (f.length - 1))) (bits_of f.mode) f.length f.length n le (omega arith)

-- what a slot of a plain field reads, and what it sets
read_by : (m : Machine) (o : Operand) (bytes : List ℕ) (pc : ℕ) (x : IsPlain m o) → source_value m bytes pc o ≡ converted x.field.mode (slot_mode m o) (extended x.field (bits_at m x.field bytes))
read_by m o bytes pc x =
    let f : Field = x.field in
    let mode : Mode = slot_mode m o in
    let named : source_value m bytes pc o ≡ field_as m mode x.place (field_value m bytes pc (pos x.place)) =
    ap (λ s. elim s as (λ _. ℕ) [ source.Field k ↦ field_as m mode k (field_value m bytes pc (pos k)) | source.Multi k ↦ multi_as m mode k (multi_value m bytes pc (pos k)) | _ ↦ fixed_value m o ]) x.source in
    let there : field_as m mode x.place (field_value m bytes pc (pos x.place)) ≡ converted f.mode mode (field_value m bytes pc (pos x.place)) =
    ap (λ y. elim y as (λ _. ℕ) [ None ↦ 0 | Some g ↦ converted g.mode mode (field_value m bytes pc (pos x.place)) ]) x.at in
    let value : field_value m bytes pc (pos x.place) ≡ decoded m f pc (bits_at m f bytes) = ap (λ y. elim y as (λ _. ℕ) [ None ↦ 0 | Some g ↦ decoded m g pc (bits_at m g bytes) ]) x.at in
    let n : ℕ = bits_at m f bytes in
    let bare : decoded m f pc n ≡ extended f n = ap (λ y. elim y as (λ _. ℕ) [ None ↦ extended f n | Some rule ↦ pure_value m (around_value (extended f n) pc) rule (Some f.mode) ]) x.no_decode in
    named ∙ there ∙ ap (converted f.mode mode) (value ∙ bare)

set_by : (m : Machine) (o : Operand) (pc v : ℕ) (x : IsPlain m o) → slot_settings m pc o v ≡ record { field = x.field; bits = converted (slot_mode m o) x.field.mode v % 2 ^ x.field.length } ∷ []
set_by m o pc v x =
    let f : Field = x.field in
    let mode : Mode = slot_mode m o in
    let named : slot_settings m pc o v ≡ field_setting m pc mode v (slice_get m.fields x.place) =
    ap (λ s. elim s as (λ _. List Setting) [ source.Field k ↦ field_setting m pc mode v (slice_get m.fields k) | source.Multi k ↦ multi_settings m pc mode v (slice_get m.multis k) | _ ↦ [] ]) x.source in
    let there : field_setting m pc mode v (slice_get m.fields x.place) ≡ setting_of m pc f (converted mode f.mode v) ∷ [] = ap (field_setting m pc mode v) x.at in
    let w : ℕ = converted mode f.mode v in
    let bare : coded m pc w f ≡ w % 2 ^ f.length = ap (λ y. elim y as (λ _. ℕ) [ None ↦ w | Some rule ↦ ruled m pc w f rule ] % 2 ^ f.length) x.no_encode in
    named ∙ there ∙ ap (λ n. record { field = f; bits = n } ∷ []) bare

-- The value of a slot of a plain field goes back where the slot's mode has as many bits as the field.
pub plain_back : (m : Machine) (o : Operand) (pc : ℕ) (bytes : List ℕ) → IsSound m → IsPlain m o → AreHeld m bytes (slot_settings m pc o (source_value m bytes pc o))
plain_back m o pc bytes sound x =
    let f : Field = x.field in
    let mode : Mode = slot_mode m o in
    let n : ℕ = bits_at m f bytes in
    let fits : f.length ≤ bits_of f.mode = (sound.fields x.place f x.at).fits in
    let small : n < 2 ^ f.length = mod_below (word_of m f bytes / 2 ^ f.shift) (2 ^ f.length) (pow_pos f.length) in
    let v : ℕ = source_value m bytes pc o in
    let first : v % 2 ^ f.length ≡ n = ap (λ y. y % 2 ^ f.length) (read_by m o bytes pc x) ∙ converted_low f.mode mode f.length (extended f n) fits x.wide ∙ extended_low f n fits ∙ mod-eq_of_lt small in
    let again : converted mode f.mode v % 2 ^ f.length ≡ n = converted_low mode f.mode f.length v x.wide fits ∙ first in
    subst (AreHeld m bytes) (sym (set_by m o pc v x)) (sym again, tt)
