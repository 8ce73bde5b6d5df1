-- What code extracts from fields.
use Rattle.std.proofs.Common.{◌≡◌, ◌≢◌, ℕ, ◌*◌, ◌%◌, ◌^◌, ◌<◌, ◌≤◌, Bool, true, false, if◌then◌else◌, List, [], Option, Some, None, Ok, slice_get, sym, ap, ◌∙◌, refl, subst, arith}
use Rattle.std.proofs.lemmas.Nat.{pow_pos, mod_below, one_shl}
use Rattle.std.proofs.lemmas.Bool.{false≢true}
use Rattle.std.proofs.Math.Nat.{mod-eq_of_lt, pow-le-pow_right}
use Rattle.cg_base.specs.declared.mode.Mode.{Mode}
use Rattle.cg_base.specs.declared.mode.Mode.TheVariants.{Void, Usi}
use Rattle.cg_base.specs.Modes.{bits_of}
use Rattle.cg_model.specs.declared.field.Field.{Field}
use Rattle.cg_model.specs.declared.field.Multi.{Multi}
use Rattle.cg_model.specs.declared.hardware.Hardware.{Hardware}
use Rattle.cg_model.specs.declared.machine.Machine.{Machine}
use Rattle.cg_model.specs.declared.operand.Operand.{Operand}
use Rattle.cg_model.specs.declared.rtl.Rtl.{Rtl}
use Rattle.cg_model.specs.Checked.{mode_of}
use Rattle.cg_model.specs.Pure.{pure_value}
use Rattle.cg_model.specs.Fields.{extended, decoded, around, around_value, around_fields}
use Rattle.cg_model.specs.Placed.{is_register}
use Rattle.cg_model.specs.Slots.{slot_mode}
use Rattle.cg_model.specs.Sound.{IsSound, SoundField, SoundMulti, SoundOperand, SoundHardware, IsRule, Allowed, is_word, is_there}
use Rattle.cg_code.proofs.Around.{rule_of_value, rule_of_fields}
use Rattle.cg_code.proofs.Held.{held_to_extract}

-- a mode that has bits is none without
has_bits : (k : Mode) → 1 ≤ bits_of k → k ≢ Void
has_bits k some e = let none : bits_of k ≡ 0 = ap bits_of e in absurd (omega arith)

pub mode_of_field : (m : Machine) (f : Field) → SoundField m f → f.mode ≢ Void
mode_of_field m f x = has_bits f.mode (omega (arith, x.fits, x.placed.own))

pub mode_of_multi : (m : Machine) (x : Multi) → SoundMulti m x → x.mode ≢ Void
mode_of_multi m x s = has_bits x.mode s.valued

-- a number modulo a power that was shifted
pub cut_to_bits : (k n : ℕ) → k ≤ 64 → n < 2 ^ 64 → n % (1 * 2 ^ k % 2 ^ 128) % 2 ^ 64 ≡ n % 2 ^ k
cut_to_bits k n few fits =
    ap (λ p. n % p % 2 ^ 64) (one_shl k 128 (omega arith))
    ∙ mod-eq_of_lt (omega (arith, mod_below n (2 ^ k) (pow_pos k), pow-le-pow_right {n = 2} (omega arith) {i = k} {j = 64} few))

pub power_some : (k : ℕ) → k ≤ 64 → 1 * 2 ^ k % 2 ^ 128 ≢ 0
power_some k few e = let one : 2 ^ k ≡ 0 = sym (one_shl k 128 (omega arith)) ∙ e in absurd (omega (arith, one, pow_pos k))

pub cut_below : (k n : ℕ) → n % 2 ^ k < 2 ^ k
cut_below k n = mod_below n (2 ^ k) (pow_pos k)

pub few_bits : (k : Mode) → bits_of k ≤ 64
few_bits k = grind arith

pub rule_fits : (m : Machine) (own : Mode) (ok : Allowed) (r : Rtl) (n : ℕ) → IsRule m own ok r → ((k : Mode) → mode_of m r (Some own) ≡ Ok k → n < 2 ^ bits_of k) → n < 2 ^ bits_of own
rule_fits m own ok r n rule fits = subst (λ b. n < 2 ^ b) rule.same (fits rule.gives.mode rule.gives.moded)

pub extracted_by : (m : Machine) (x : Multi) (pc n : ℕ) (bytes : List ℕ) → SoundMulti m x → n ≡ pure_value m (around m 0 pc bytes) x.extract (Some x.mode) → n ≡ pure_value m (around_fields m bytes pc) x.extract (Some x.mode)
extracted_by m x pc n bytes sound gives = gives ∙ rule_of_fields m x.subs pc bytes x.extract (Some x.mode) sound.extract.allowed

mode_either : (b : Bool) (k : Mode) → k ≢ Void → (if b then Usi else k) ≢ Void
mode_either true k h = has_bits Usi (omega arith)
mode_either false k h = h

-- the hardware of an operand
mode_at_hardware : (o : Option Hardware) → is_there o ≡ true → ((h : Hardware) → o ≡ Some h → SoundHardware h) → elim o as (λ _. Mode) [ None ↦ Void | Some h ↦ if is_register h.kind then Usi else h.mode ] ≢ Void
mode_at_hardware None there sound = absurd (false≢true there)
mode_at_hardware (Some h) there sound = mode_either (is_register h.kind) h.mode (has_bits h.mode (sound h refl).valued)

pub slot_has_bits : (m : Machine) (o : Operand) → IsSound m → SoundOperand m o → slot_mode m o ≢ Void
slot_has_bits m o sound x = mode_at_hardware (slice_get m.hardware o.hardware) x.hardware (sound.hardware o.hardware)

-- the word has 64 bits at most
word_few : (bits : ℕ) → is_word bits ≡ true → bits ≤ 64
word_few bits h = grind arith

pub word_bits_few : (m : Machine) → IsSound m → m.word_bits ≤ 64
word_bits_few m sound = word_few m.word_bits sound.word

pub ruleset word = (cut_to_bits, power_some, cut_below, few_bits, word_bits_few)

pub ruleset slot = (slot_has_bits)

pub ruleset decoding = (rule_fits, extracted_by, held_to_extract)

pub ruleset fields = (mode_of_field, mode_of_multi)
