-- What code can ask of what stands around a pure expression.
use Rattle.std.specs.Prelude.{ℕ, ◌^◌, Bool, true, ◌&&◌, nat_lt, List, [], ◌∷◌, ℤ}
use Rattle.std.specs.Option.{unwrap_or}
use Rattle.cg_base.specs.declared.Mode.{Mode}
use Rattle.cg_base.specs.declared.Mode.TheVariants.{Void}
use Rattle.cg_base.specs.Modes.{bits_of, address_mode}
use Rattle.cg_model.specs.Pure.{Around}
use Rattle.cg_model.specs.Sound.{Allowed, is_allowed}
use Rattle.cg_model.specs.declared.machine.Machine.{Machine}
use Rattle.cg_model.specs.declared.rtl.Op.TheVariants as op
use Rattle.cg_model.specs.declared.rtl.Rtl.{Rtl}

-- What stands around, and of which fields and multi fields the values can be had.
pub record Seen : Type 0 where
  pub around : Around
  pub has_field : ℤ → Bool
  pub has_multi : ℤ → Bool

-- A number is below 2 ^ bits of a mode.
abbrev pub below : Mode → ℕ → Bool
below k n = nat_lt n (2 ^ bits_of k)

-- What an expression names can be had, and the rule's own value and the pc lie below 2 ^ bits of their modes.
unfoldable pub is_had : Machine → Seen → Allowed
is_had m s op.Value mode n = below (unwrap_or mode Void) s.around.value
is_had m s op.Pc mode n = below (address_mode m.word_bits) s.around.pc
is_had m s op.FieldRef mode n = s.has_field n
is_had m s op.MultiRef mode n = s.has_multi n
is_had m s _ mode n = true

-- All that an expression names can be had.
unfoldable pub all_had : Machine → Seen → Rtl → Bool
all_had m s r = is_allowed (is_had m s) r

-- All that some expressions name can be had.
abbrev pub each_had : Machine → Seen → List Rtl → Bool
each_had m s [] = true
each_had m s (x ∷ xs) = all_had m s x && each_had m s xs
