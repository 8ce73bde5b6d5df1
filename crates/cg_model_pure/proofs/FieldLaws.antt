-- What fields and multi fields give.
use Rattle.std.proofs.Common.{◌≡◌, ℕ, ◌+◌, ◌*◌, ◌/◌, ◌^◌, ◌<◌, ◌≤◌, true, nat_le, List, length, ℤ, Option, Some, None, Ok, Err, slice_get, sym, ap, ◌∙◌, subst, arith}
use Rattle.std.proofs.lemmas.Grind.{common_steps}
use Rattle.std.proofs.lemmas.Bool.Decides.{nat_tests}
use Rattle.std.proofs.lemmas.Nat.{pow_pos}
use Rattle.cg_base.specs.declared.mode.Mode.{Mode}
use Rattle.cg_base.specs.Modes.{bits_of}
use Rattle.cg_model.specs.declared.field.Field.{Field}
use Rattle.cg_model.specs.declared.field.Multi.{Multi}
use Rattle.cg_model.specs.declared.machine.Machine.{Machine}
use Rattle.cg_model.specs.declared.rtl.Rtl.{Rtl}
use Rattle.cg_model.specs.Checked.{mode_of, field_mode, multi_mode, no_shape}
use Rattle.cg_model.specs.Covers.{IsInWord}
use Rattle.cg_model.specs.Fields.{extended, decoded, bits_at, around_value, around_fields, field_value, multi_value}
use Rattle.cg_model.specs.Matching.{end_of, last_end}
use Rattle.cg_model.specs.Operators.{at_number}
use Rattle.cg_model.specs.Pure.{pure_value}
use Rattle.cg_model.specs.Sound.{Allowed, Gives, IsSound, IsRule, SoundField, SoundMulti}
use Rattle.cg_model.specs.Values.{mode_or_void}
use Rattle.cg_model_pure.specs.Evaluable.{holds_field, holds_multi, subs_of, all_held}
use Rattle.cg_model_pure.specs.Surroundings.{seen_fields, seen_all, IsReadable}
use Rattle.cg_model_pure_eval.specs.Seen.{all_had}
use Rattle.cg_model_pure.proofs.Held.{had_of_held, had_to_decode, had_to_extract}

-- The rule of a field.
pub decoded_by : (m : Machine) (f : Field) (r : Rtl) (pc x number n : ℕ) → f.decode ≡ Some r → x ≡ extended f number → n ≡ pure_value m (around_value x pc) r (Some f.mode) → n ≡ decoded m f pc number
decoded_by m f r pc x number n is plain gives =
    gives ∙ ap (λ y. pure_value m (around_value y pc) r (Some f.mode)) plain
    ∙ sym (ap (λ o. elim o as (λ _. ℕ) [ None ↦ extended f number | Some rule ↦ pure_value m (around_value (extended f number) pc) rule (Some f.mode) ]) is)

pub decoded_plain : (m : Machine) (f : Field) (pc x number : ℕ) → f.decode ≡ None → x ≡ extended f number → x ≡ decoded m f pc number
decoded_plain m f pc x number is plain =
    plain ∙ sym (ap (λ o. elim o as (λ _. ℕ) [ None ↦ extended f number | Some rule ↦ pure_value m (around_value (extended f number) pc) rule (Some f.mode) ]) is)

pub rule_gives : (m : Machine) (f : Field) (r : Rtl) → f.decode ≡ Some r → SoundField m f → Gives m (Some f.mode) r
rule_gives m f r is sound = (sound.decode r is).gives

rule_fits : (m : Machine) (own : Mode) (ok : Allowed) (r : Rtl) (n : ℕ) → IsRule m own ok r → ((k : Mode) → mode_of m r (Some own) ≡ Ok k → n < 2 ^ bits_of k) → n < 2 ^ bits_of own
rule_fits m own ok r n rule fits = subst (λ b. n < 2 ^ b) rule.same (fits rule.gives.mode rule.gives.moded)

pub decoded_fits : (m : Machine) (f : Field) (r : Rtl) (n : ℕ) → f.decode ≡ Some r → SoundField m f → ((k : Mode) → mode_of m r (Some f.mode) ≡ Ok k → n < 2 ^ bits_of k) → n < 2 ^ bits_of f.mode
decoded_fits m f r n is sound fits = rule_fits m f.mode _ r n (sound.decode r is) fits

pub extracted_fits : (m : Machine) (x : Multi) (n : ℕ) → SoundMulti m x → ((k : Mode) → mode_of m x.extract (Some x.mode) ≡ Ok k → n < 2 ^ bits_of k) → n < 2 ^ bits_of x.mode
extracted_fits m x n sound fits = rule_fits m x.mode _ x.extract n sound.extract fits

pub extract_gives : (m : Machine) (x : Multi) → SoundMulti m x → Gives m (Some x.mode) x.extract
extract_gives m x sound = sound.extract.gives

pub ruleset decode_rules = (common_steps, decoded_by, decoded_plain, rule_gives, decoded_fits, had_to_decode)

-- What is looked up in a sound machine is sound.
pub sound_field : (m : Machine) (k : ℕ) (f : Field) → IsSound m → slice_get m.fields k ≡ Some f → SoundField m f
sound_field m k f sound is = sound.fields k f is

pub sound_multi : (m : Machine) (k : ℕ) (x : Multi) → IsSound m → slice_get m.multis k ≡ Some x → SoundMulti m x
sound_multi m k x sound is = sound.multis k x is

pub ruleset sound_rules = (common_steps, sound_field, sound_multi)

-- A field's word lies in bytes that hold it.
le_is : (a b : ℕ) → nat_le a b ≡ true → a ≤ b
le_is a b h = grind (arith, nat_tests)

inside_of : (o : Option Field) (f : Field) (n : ℕ) → o ≡ Some f → nat_le (end_of o) n ≡ true → f.word_offset + f.word_bits ≤ n
inside_of o f n is h = le_is (f.word_offset + f.word_bits) n (subst (λ p. nat_le (end_of p) n ≡ true) is h)

word_inside : (f : Field) (n : ℕ) → IsInWord f → f.word_offset + f.word_bits ≤ 8 * n → f.word_offset / 8 + f.word_bits / 8 ≤ n
word_inside f n at h = omega (arith, at.offset, at.bytes, h)

pub field_inside : (m : Machine) (f : Field) (n : ℤ) (bytes : List ℕ) → at_number m.fields n ≡ Some f → SoundField m f → holds_field m bytes n ≡ true → f.word_offset / 8 + f.word_bits / 8 ≤ length bytes
field_inside m f n bytes is sound h = word_inside f (length bytes) sound.placed (inside_of (at_number m.fields n) f (8 * length bytes) is h)

pub field_given : (m : Machine) (f : Field) (n : ℤ) (bytes : List ℕ) (pc v : ℕ) → at_number m.fields n ≡ Some f → v ≡ decoded m f pc (bits_at m f bytes) → v ≡ field_value m bytes pc n
field_given m f n bytes pc v is gives = gives ∙ sym (ap (λ o. elim o as (λ _. ℕ) [ None ↦ 0 | Some g ↦ decoded m g pc (bits_at m g bytes) ]) is)

pub field_none : (m : Machine) (n : ℤ) (bytes : List ℕ) (pc : ℕ) → at_number m.fields n ≡ None → 0 ≡ field_value m bytes pc n
field_none m n bytes pc is = sym (ap (λ o. elim o as (λ _. ℕ) [ None ↦ 0 | Some g ↦ decoded m g pc (bits_at m g bytes) ]) is)

pub field_in_mode : (m : Machine) (f : Field) (n : ℤ) (v : ℕ) → at_number m.fields n ≡ Some f → v < 2 ^ bits_of f.mode → v < 2 ^ bits_of (mode_or_void (field_mode m n))
field_in_mode m f n v is fits = subst (λ o. v < 2 ^ bits_of (mode_or_void (elim o [ None ↦ Err no_shape | Some g ↦ Ok g.mode ]))) (sym is) fits

pub nothing_fits : (bits : ℕ) → 0 < 2 ^ bits
nothing_fits bits = pow_pos bits

pub ruleset field_rules = (common_steps, field_inside, field_given, field_none, field_in_mode, nothing_fits)

-- So do those of a multi field's fields.
pub multi_inside : (m : Machine) (x : Multi) (n : ℤ) (bytes : List ℕ) → at_number m.multis n ≡ Some x → holds_multi m bytes n ≡ true → last_end m x.subs ≤ 8 * length bytes
multi_inside m x n bytes is h = le_is (last_end m x.subs) (8 * length bytes) (subst (λ o. nat_le (last_end m (subs_of o)) (8 * length bytes) ≡ true) is h)

pub had_at_multi : (m : Machine) (x : Multi) (n : ℤ) (bytes : List ℕ) (pc : ℕ) → at_number m.multis n ≡ Some x → SoundMulti m x → IsSound m → pc < 2 ^ m.word_bits → holds_multi m bytes n ≡ true → all_had m (seen_fields m bytes pc) x.extract ≡ true
had_at_multi m x n bytes pc is multi sound word h = had_to_extract m x bytes pc multi sound word (multi_inside m x n bytes is h)

pub multi_given : (m : Machine) (x : Multi) (n : ℤ) (bytes : List ℕ) (pc v : ℕ) → at_number m.multis n ≡ Some x → v ≡ pure_value m (around_fields m bytes pc) x.extract (Some x.mode) → v ≡ multi_value m bytes pc n
multi_given m x n bytes pc v is gives = gives ∙ sym (ap (λ o. elim o as (λ _. ℕ) [ None ↦ 0 | Some y ↦ pure_value m (around_fields m bytes pc) y.extract (Some y.mode) ]) is)

pub multi_none : (m : Machine) (n : ℤ) (bytes : List ℕ) (pc : ℕ) → at_number m.multis n ≡ None → 0 ≡ multi_value m bytes pc n
multi_none m n bytes pc is = sym (ap (λ o. elim o as (λ _. ℕ) [ None ↦ 0 | Some y ↦ pure_value m (around_fields m bytes pc) y.extract (Some y.mode) ]) is)

pub multi_in_mode : (m : Machine) (x : Multi) (n : ℤ) (v : ℕ) → at_number m.multis n ≡ Some x → SoundMulti m x → ((k : Mode) → mode_of m x.extract (Some x.mode) ≡ Ok k → v < 2 ^ bits_of k) → v < 2 ^ bits_of (mode_or_void (multi_mode m n))
multi_in_mode m x n v is sound fits = subst (λ o. v < 2 ^ bits_of (mode_or_void (elim o [ None ↦ Err no_shape | Some y ↦ Ok y.mode ]))) (sym is) (extracted_fits m x v sound fits)

pub readable : (m : Machine) (pc : ℕ) → IsSound m → pc < 2 ^ m.word_bits → IsReadable m pc
readable m pc sound word = record { sound = sound; word = word }

pub ruleset multi_rules = (common_steps, had_at_multi, multi_given, multi_none, multi_in_mode, extract_gives, readable, nothing_fits)

pub had_all : (m : Machine) (v pc : ℕ) (bytes : List ℕ) (r : Rtl) → IsSound m → pc < 2 ^ m.word_bits → all_held m v bytes r ≡ true → all_had m (seen_all m v pc bytes) r ≡ true
had_all m v pc bytes r sound word h = had_of_held m v pc bytes r (readable m pc sound word) h

pub ruleset held_rules = (common_steps, had_all, readable)
