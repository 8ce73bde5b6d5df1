-- What the judge of machines answers.
use Rattle.std.specs.Prelude.{◌≡◌, ◌≤◌, true, count_ones, List, [], ◌∷◌, Option, Some, None, Ok}
use Rattle.cg_base.specs.declared.Mode.{Mode}
use Rattle.cg_base.specs.Modes.{bits_of}
use Rattle.cg_model.specs.Checked.{mode_of}
use Rattle.cg_model.specs.Pure.{is_pure}
use Rattle.cg_model.specs.Covers.{named_bits}
use Rattle.cg_model.specs.Matching.{fields_of_parts}
use Rattle.cg_model.specs.Sound.{Allowed, is_allowed, of_format, Gives, IsRule, SoundField, SoundMulti, SoundHardware, SoundOperand}
use Rattle.cg_model.specs.declared.insn.Part.{Part}
use Rattle.cg_model.specs.declared.machine.Machine.{Machine}
use Rattle.cg_model.specs.declared.rtl.Rtl.{Rtl}

-- A pure expression has this mode, of some bits.
pub record HasMode (m : Machine) (want : Option Mode) (rtl : Rtl) (mode : Mode) : Type 0 where
  pub pure : is_pure rtl ≡ true
  pub moded : mode_of m rtl want ≡ Ok mode
  pub valued : 1 ≤ bits_of mode

-- Where there is a rule, it is one of a mode.
abbrev pub IsRuleWhere : Machine → Mode → Allowed → Option Rtl → Type 0
IsRuleWhere m own ok o = (r : Rtl) → o ≡ Some r → IsRule m own ok r

-- What holds of each of some things.
abbrev pub Each : {A : Type 0} → (A → Type 0) → List A → Type 0
Each P [] = Unit {0}
Each P (x ∷ xs) = P x × Each P xs

-- An expression may be the assertion of a format.
pub record MayAssert (m : Machine) (parts : List Part) (rtl : Rtl) : Type 0 where
  pub gives : Gives m None rtl
  pub allowed : is_allowed (of_format m (fields_of_parts m parts)) rtl ≡ true
  pub few : count_ones (named_bits m rtl) ≤ 8

-- Fields, multi fields, hardware and operands are sound.
pub record HasSoundElements (m : Machine) : Type 0 where
  pub fields : Each (SoundField m) m.fields
  pub multis : Each (SoundMulti m) m.multis
  pub hardware : Each SoundHardware m.hardware
  pub operands : Each (SoundOperand m) m.operands
