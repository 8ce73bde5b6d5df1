-- What pure expressions name can be had from bytes.
use Rattle.std.specs.Prelude.{ℕ, ◌*◌, ◌^◌, Bool, true, nat_lt, nat_le, List, [], length, ℤ, Option, Some, None}
use Rattle.std.specs.Option.{unwrap_or}
use Rattle.cg_base.specs.declared.mode.Mode.TheVariants.{Void}
use Rattle.cg_base.specs.Modes.{bits_of}
use Rattle.cg_model.specs.Matching.{end_of, last_end}
use Rattle.cg_model.specs.Operators.{at_number}
use Rattle.cg_model.specs.Sound.{Allowed, is_allowed}
use Rattle.cg_model.specs.declared.field.Multi.{Multi}
use Rattle.cg_model.specs.declared.machine.Machine.{Machine}
use Rattle.cg_model.specs.declared.rtl.Op.TheVariants as op
use Rattle.cg_model.specs.declared.rtl.Rtl.{Rtl}

-- The fields of a multi field.
abbrev pub subs_of : Option Multi → List ℕ
subs_of None = []
subs_of (Some x) = x.subs

-- The word of a field lies in bytes, or those of a multi field's fields.
abbrev pub holds_field : Machine → List ℕ → ℤ → Bool
holds_field m bytes n = nat_le (end_of (at_number m.fields n)) (8 * length bytes)

abbrev pub holds_multi : Machine → List ℕ → ℤ → Bool
holds_multi m bytes n = nat_le (last_end m (subs_of (at_number m.multis n))) (8 * length bytes)

-- What an expression names can be had: the rule's own value is below 2 ^ bits of the mode in which it stands, and the words of
-- fields and multi fields lie in the bytes.
unfoldable pub is_held : Machine → ℕ → List ℕ → Allowed
is_held m value bytes op.Value mode n = nat_lt value (2 ^ bits_of (unwrap_or mode Void))
is_held m value bytes op.FieldRef mode n = holds_field m bytes n
is_held m value bytes op.MultiRef mode n = holds_multi m bytes n
is_held m value bytes _ mode n = true

-- So can all that it names.
unfoldable pub all_held : Machine → ℕ → List ℕ → Rtl → Bool
all_held m value bytes rtl = is_allowed (is_held m value bytes) rtl
