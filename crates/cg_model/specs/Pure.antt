-- What a pure expression gives: the rules of fields and the assertions of instructions are such expressions. They set nothing,
-- ask no device and cannot trap.
use Rattle.std.specs.Prelude.{ℕ, Bool, true, false, not, ◌&&◌, List, [], ℤ, Option, Some, None}
use Rattle.std.specs.List.{list_all}
use Rattle.cg_base.specs.declared.Mode.{Mode}
use Rattle.cg_base.specs.declared.BinaryOp.{BinaryOp}
use Rattle.cg_base.specs.Operations.{divides}
use Rattle.cg_model.specs.Operators.{at_number, binary_ops}
use Rattle.cg_model.specs.Checked.{Locals}
use Rattle.cg_model.specs.Values.{Meaning, Steps, at_once, shared_gives, meaning}
use Rattle.cg_model.specs.declared.machine.Machine.{Machine}
use Rattle.cg_model.specs.declared.rtl.Op.{Op}
use Rattle.cg_model.specs.declared.rtl.Op.TheVariants as op
use Rattle.cg_model.specs.declared.rtl.Rtl.{Rtl}
use Rattle.cg_model.specs.declared.rtl.Rtl.TheOpen.{Rtl-F}
use Rattle.cg_model.specs.declared.rtl.Rtl.TheFolds.{fold-Rtl}

-- What stands around a pure expression: the rule's own value, the pc, and what fields and multi fields give by their numbers.
pub record Around : Type 0 where
  pub value : ℕ
  pub pc : ℕ
  pub field : ℤ → ℕ
  pub multi : ℤ → ℕ

abbrev pub pure_gives : Machine → Around → Op → Option Mode → ℤ → List (Meaning ℕ) → Locals → Option Mode → ℕ
pure_gives m a op.Value written n xs l want = a.value
pure_gives m a op.Pc written n xs l want = a.pc
pure_gives m a op.FieldRef written n xs l want = a.field n
pure_gives m a op.MultiRef written n xs l want = a.multi n
pure_gives m a o written n xs l want = shared_gives m at_once o written n xs l want

-- Nothing is set.
abbrev pub pure_steps : Machine → Around → Steps ℕ
pure_steps m a = record { gives = pure_gives m a; puts = λ o written n xs l v. v }

-- What a pure expression means.
unfoldable pub pure_meaning : Machine → Around → Rtl → Meaning ℕ
pure_meaning m a r = meaning m at_once (pure_steps m a) r

-- The value of a pure expression, in the mode that is wanted of it or where none is.
abbrev pub pure_value : Machine → Around → Rtl → Option Mode → ℕ
pure_value m a r want = (pure_meaning m a r).gives [] want

-- The operations on two numbers that a pure expression may have: all but those that divide.
abbrev pub is_pure_binary : Option BinaryOp → Bool
is_pure_binary None = true
is_pure_binary (Some o) = not (divides o)

-- The operations that a pure expression may have.
abbrev pub is_pure_op : Op → ℤ → Bool
is_pure_op op.Binary n = is_pure_binary (at_number binary_ops n)
is_pure_op op.Local n = false
is_pure_op op.OperandRef n = false
is_pure_op op.Index n = false
is_pure_op op.NewVal n = false
is_pure_op op.IndexOf n = false
is_pure_op op.Sequence n = false
is_pure_op op.Parallel n = false
is_pure_op op.Set n = false
is_pure_op op.Reg n = false
is_pure_op op.RawReg n = false
is_pure_op op.Mem n = false
is_pure_op op.Delay n = false
is_pure_op op.Error n = false
is_pure_op op.Halt n = false
is_pure_op _ n = true

abbrev pub pure_step : Rtl-F Bool → Bool
pure_step f = is_pure_op f.op f.number && list_all (λ b. b) f.items

-- An expression is pure.
unfoldable pub is_pure : Rtl → Bool
is_pure r = fold-Rtl Bool pure_step r
