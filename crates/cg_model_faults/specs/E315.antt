-- E315: a rule or an assertion isn't pure, or an assertion names over 8 bits, a field with a rule or a multi field.
use Rattle.std.specs.Prelude.{ℕ, Bool, true, false, not, ◌||◌, nat_le, bit_or, count_ones, List, ◌++◌, ℤ, pos, negsuc, Option, Some, None}
use Rattle.cg_model.specs.Covers.{all_bits}
use Rattle.cg_model.specs.Operators.{at_number}
use Rattle.cg_model.specs.Pure.{is_pure_op}
use Rattle.cg_model.specs.Sound.{has_rules}
use Rattle.cg_model_faults.specs.Finding.{Faults, at_place, where_so, AtNode, in_nodes}
use Rattle.cg_model_faults.specs.E306.{names}
use Rattle.cg_model_faults.specs.E310.{bits_covered}
use Rattle.cg_model_faults.specs.declared.fault.Purpose.{Purpose}
use Rattle.cg_model_faults.specs.declared.fault.Purpose.TheVariants as purpose
use Rattle.cg_model_faults.specs.declared.fault.Said.TheVariants.{Own, Nothing}
use Rattle.cg_model.specs.declared.field.Field.{Field}
use Rattle.cg_model.specs.declared.machine.Machine.{Machine}
use Rattle.cg_model.specs.declared.rtl.Op.{Op}
use Rattle.cg_model.specs.declared.rtl.Op.TheVariants as op
use Rattle.cg_model.specs.declared.rtl.Rtl.{Rtl}
use Rattle.cg_model.specs.declared.rtl.Rtl.TheOpen.{Rtl-F}
use Rattle.cg_model.specs.declared.rtl.Rtl.TheFolds.{fold-Rtl}

-- An operation that isn't pure. Where a local, an index or a new value can't stand, that is another refusal.
unfoldable pub is_impure : Op → ℤ → Bool
is_impure op.Local n = false
is_impure op.Index n = false
is_impure op.NewVal n = false
is_impure o n = not (is_pure_op o n)

abbrev pub is_ruled : Option Field → Bool
is_ruled None = false
is_ruled (Some f) = has_rules f

-- What a pure expression may not name. In `encode`, `decode` and `insert`: a field or a multi field.
unfoldable pub names_field : Op → ℤ → Bool
names_field op.FieldRef n = true
names_field op.MultiRef n = true
names_field _ n = false

-- In `extract`: another field than these, or a multi field.
unfoldable pub names_other : List ℕ → Op → ℤ → Bool
names_other subs op.FieldRef n = not (names subs n)
names_other subs op.MultiRef n = true
names_other subs _ n = false

-- In an assertion: the pc, a multi field, or a field with a rule.
unfoldable pub names_ruled : Machine → Op → ℤ → Bool
names_ruled m op.Pc n = true
names_ruled m op.MultiRef n = true
names_ruled m op.FieldRef n = is_ruled (at_number m.fields n)
names_ruled m _ n = false

unfoldable pub may_not_name : Machine → Purpose → List ℕ → Op → ℤ → Bool
may_not_name m purpose.Encode subs o n = names_field o n
may_not_name m purpose.Decode subs o n = names_field o n
may_not_name m purpose.Insert subs o n = names_field o n
may_not_name m purpose.Extract subs o n = names_other subs o n
may_not_name m purpose.Assertion subs o n = names_ruled m o n
may_not_name m _ subs o n = false

unfoldable pub impure_at : Machine → Purpose → List ℕ → AtNode
impure_at m p subs o mode n = where_so (is_impure o n || may_not_name m p subs o n) (at_place 315 0 Own Nothing)

-- The bits that the fields of an expression cover.
abbrev pub bits_at_number : Machine → ℤ → ℕ
bits_at_number m (pos k) = bits_covered m k
bits_at_number m (negsuc k) = 0

unfoldable pub bits_at_op : Machine → Op → ℤ → ℕ
bits_at_op m op.FieldRef n = bits_at_number m n
bits_at_op m _ n = 0

abbrev pub bits_step : Machine → Rtl-F ℕ → ℕ
bits_step m f = bit_or (bits_at_op m f.op f.number) (all_bits f.items)

unfoldable pub bits_named : Machine → Rtl → ℕ
bits_named m rtl = fold-Rtl ℕ (bits_step m) rtl

-- An assertion that names over 8 bits.
unfoldable pub names_many : Machine → Purpose → Rtl → Bool
names_many m purpose.Assertion rtl = not (nat_le (count_ones (bits_named m rtl)) 8)
names_many m _ rtl = false

-- Of an expression for some purpose. That of a multi field may name the multi field's own fields.
abbrev pub impure : Machine → Purpose → List ℕ → Rtl → Faults
impure m p subs rtl = in_nodes (impure_at m p subs) rtl ++ where_so (names_many m p rtl) (at_place 315 0 Own Nothing)
