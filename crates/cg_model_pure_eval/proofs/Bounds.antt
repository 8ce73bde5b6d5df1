-- Bounds of what operations give.
use Rattle.std.proofs.Common.{◌≡◌, ℕ, ◌^◌, ◌<◌, ◌≤◌, Bool, true, false, not, ◌==◌, int_lt, int_le, nat_lt, nat_le, min, take, length, List, Ok, sym, arith}
use Rattle.std.proofs.lemmas.Grind.{common_steps}
use Rattle.std.proofs.lemmas.Nat.{pow_pos}
use Rattle.std.proofs.Math.Nat.{pow-le-pow_right}
use Rattle.cg_base.proofs.Words.{wrapped_cast}
use Rattle.cg_base.specs.Operations.{flag, as_signed, binary_answer, takes_count}
use Rattle.cg_base.specs.declared.BinaryOp.{BinaryOp}
use Rattle.cg_base.specs.declared.BinaryOp.TheVariants.{Add, Sub, Mul, Div, Udiv, Mod, Umod, And, Or, Xor, Sll, Srl, Sra, Rol, Ror, Eq, Ne, Lt, Le, Gt, Ge, Ltu, Leu, Gtu, Geu}
use Rattle.cg_modes.proofs.Laws.{take_min}
use Rattle.cg_model.specs.Operators.{kind_of}
use Rattle.cg_model.specs.declared.judged.Kind.TheVariants.{Shift, Comparison}

pub flag_fits : (b : Bool) → flag b < 2
flag_fits true = omega arith
flag_fits false = omega arith

pub wider_fits : (j k n : ℕ) → j ≤ k → n < 2 ^ j → n < 2 ^ k
wider_fits j k n le fits = omega (arith, fits, pow-le-pow_right {n = 2} (omega arith) {i = j} {j = k} le)

pub nothing_fits : (bits : ℕ) → 0 < 2 ^ bits
nothing_fits bits = pow_pos bits

-- No more can be taken than there are.
pub taken_least : {A : Type 0} (n : ℕ) (xs : List A) → take (min n (length xs)) xs ≡ take n xs
taken_least n xs = sym (take_min n xs)

pub compared_fits : (o : BinaryOp) (bits a b v : ℕ) → kind_of o ≡ Comparison → Ok v ≡ binary_answer o bits a b → v < 2
unfolding kind_of
compared_fits Add bits a b v kind e = grind (arith, common_steps)
compared_fits Sub bits a b v kind e = grind (arith, common_steps)
compared_fits Mul bits a b v kind e = grind (arith, common_steps)
compared_fits Div bits a b v kind e = grind (arith, common_steps)
compared_fits Udiv bits a b v kind e = grind (arith, common_steps)
compared_fits Mod bits a b v kind e = grind (arith, common_steps)
compared_fits Umod bits a b v kind e = grind (arith, common_steps)
compared_fits And bits a b v kind e = grind (arith, common_steps)
compared_fits Or bits a b v kind e = grind (arith, common_steps)
compared_fits Xor bits a b v kind e = grind (arith, common_steps)
compared_fits Sll bits a b v kind e = grind (arith, common_steps)
compared_fits Srl bits a b v kind e = grind (arith, common_steps)
compared_fits Sra bits a b v kind e = grind (arith, common_steps)
compared_fits Rol bits a b v kind e = grind (arith, common_steps)
compared_fits Ror bits a b v kind e = grind (arith, common_steps)
compared_fits Eq bits a b v kind e = grind (arith, common_steps, flag_fits (a == b))
compared_fits Ne bits a b v kind e = grind (arith, common_steps, flag_fits (not (a == b)))
compared_fits Lt bits a b v kind e = grind (arith, common_steps, flag_fits (int_lt (as_signed bits a) (as_signed bits b)))
compared_fits Le bits a b v kind e = grind (arith, common_steps, flag_fits (int_le (as_signed bits a) (as_signed bits b)))
compared_fits Gt bits a b v kind e = grind (arith, common_steps, flag_fits (int_lt (as_signed bits b) (as_signed bits a)))
compared_fits Ge bits a b v kind e = grind (arith, common_steps, flag_fits (int_le (as_signed bits b) (as_signed bits a)))
compared_fits Ltu bits a b v kind e = grind (arith, common_steps, flag_fits (nat_lt a b))
compared_fits Leu bits a b v kind e = grind (arith, common_steps, flag_fits (nat_le a b))
compared_fits Gtu bits a b v kind e = grind (arith, common_steps, flag_fits (nat_lt b a))
compared_fits Geu bits a b v kind e = grind (arith, common_steps, flag_fits (nat_le b a))

pub shift_counts : (o : BinaryOp) → kind_of o ≡ Shift → takes_count o ≡ true
unfolding kind_of
shift_counts Add kind = grind (arith, common_steps)
shift_counts Sub kind = grind (arith, common_steps)
shift_counts Mul kind = grind (arith, common_steps)
shift_counts Div kind = grind (arith, common_steps)
shift_counts Udiv kind = grind (arith, common_steps)
shift_counts Mod kind = grind (arith, common_steps)
shift_counts Umod kind = grind (arith, common_steps)
shift_counts And kind = grind (arith, common_steps)
shift_counts Or kind = grind (arith, common_steps)
shift_counts Xor kind = grind (arith, common_steps)
shift_counts Sll kind = grind (arith, common_steps)
shift_counts Srl kind = grind (arith, common_steps)
shift_counts Sra kind = grind (arith, common_steps)
shift_counts Rol kind = grind (arith, common_steps)
shift_counts Ror kind = grind (arith, common_steps)
shift_counts Eq kind = grind (arith, common_steps)
shift_counts Ne kind = grind (arith, common_steps)
shift_counts Lt kind = grind (arith, common_steps)
shift_counts Le kind = grind (arith, common_steps)
shift_counts Gt kind = grind (arith, common_steps)
shift_counts Ge kind = grind (arith, common_steps)
shift_counts Ltu kind = grind (arith, common_steps)
shift_counts Leu kind = grind (arith, common_steps)
shift_counts Gtu kind = grind (arith, common_steps)
shift_counts Geu kind = grind (arith, common_steps)

pub ruleset word_rules = (common_steps, wrapped_cast, flag_fits)
