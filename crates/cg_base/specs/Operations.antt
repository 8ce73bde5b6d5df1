-- What each operation gives. Its operands and its answer are numbers of some bits, from 0 to 2 ^ bits - 1.
use Rattle.std.specs.Prelude.{ℕ, ◌+◌, ◌-◌, ◌*◌, ◌/◌, ◌%◌, ◌^◌, min, Bool, true, false, not, ◌&&◌, ◌||◌, ◌==◌, nat_lt, nat_le, if◌then◌else◌, ℤ, pos, neg_ℤ, ◌-ℤ◌, ◌+ℤ◌, int_lt, int_le, int_div, int_rem, bit_and, bit_or, bit_xor, unsigned_abs, Result, Ok, Err}
use Rattle.std.specs.Int.{int_rem_euclid, int_shr}
use Rattle.cg_base.specs.declared.mode.Mode.{Mode}
use Rattle.cg_base.specs.declared.operation.UnaryOp.{UnaryOp}
use Rattle.cg_base.specs.declared.operation.UnaryOp.TheVariants.{Neg, Inv, Not, Abs}
use Rattle.cg_base.specs.declared.operation.BinaryOp.{BinaryOp}
use Rattle.cg_base.specs.declared.operation.BinaryOp.TheVariants.{Add, Sub, Mul, Div, Udiv, Mod, Umod, And, Or, Xor, Sll, Srl, Sra, Rol, Ror, Eq, Ne, Lt, Le, Gt, Ge, Ltu, Leu, Gtu, Geu}
use Rattle.cg_base.specs.declared.operation.TernaryOp.{TernaryOp}
use Rattle.cg_base.specs.declared.operation.TernaryOp.TheVariants.{Addc, Subc, AddCflag, AddOflag, SubCflag, SubOflag}
use Rattle.cg_base.specs.declared.operation.DivideByZero.{DivideByZero}
use Rattle.cg_base.specs.Modes.{bits_of, is_signed}

-- z modulo 2 ^ bits: the number from 0 to 2 ^ bits - 1 that differs from z by a multiple of 2 ^ bits.
abbrev pub wrapped : ℕ → ℤ → ℕ
wrapped bits z = unsigned_abs (int_rem_euclid z (pos (2 ^ bits)))

-- The number that the bits stand for where the highest of them is a sign: it counts -2 ^ (bits - 1). One bit alone is no sign.
abbrev pub as_signed : ℕ → ℕ → ℤ
as_signed bits a = if bits == 1 || nat_lt a (2 ^ (bits - 1)) then pos a else pos a -ℤ pos (2 ^ bits)

-- The least and the greatest number that bits with a sign stand for.
abbrev pub least_signed : ℕ → ℤ
least_signed bits = if bits == 1 then pos 0 else neg_ℤ (pos (2 ^ (bits - 1)))

abbrev pub greatest_signed : ℕ → ℤ
greatest_signed bits = if bits == 1 then pos 1 else pos (2 ^ (bits - 1) - 1)

-- z is none of the numbers that bits with a sign stand for.
abbrev pub overflows : ℕ → ℤ → Bool
overflows bits z = int_lt z (least_signed bits) || int_lt (greatest_signed bits) z

-- The bits of a around to the left: the highest n have gone behind the others.
abbrev pub rotated : ℕ → ℕ → ℕ → ℕ
rotated bits n a = (a % 2 ^ (bits - n)) * 2 ^ n + a / 2 ^ (bits - n)

-- 1 for yes, 0 for no
abbrev pub flag : Bool → ℕ
flag true = 1
flag false = 0

-- What each operation on one number gives. `inv` turns each bit, which makes 2 ^ bits - 1 of a number and its inverse.
abbrev pub unary_value : UnaryOp → ℕ → ℕ → ℕ
unary_value Neg bits a = wrapped bits (neg_ℤ (pos a))
unary_value Inv bits a = 2 ^ bits - 1 - a
unary_value Not bits a = flag (a == 0)
unary_value Abs bits a = wrapped bits (pos (unsigned_abs (as_signed bits a)))

-- The four that divide. They give nothing where the divisor is 0.
abbrev pub divides : BinaryOp → Bool
divides Div = true
divides Udiv = true
divides Mod = true
divides Umod = true
divides _ = false

-- The five that shift or rotate. Their second operand is a count, and may be any number.
abbrev pub takes_count : BinaryOp → Bool
takes_count Sll = true
takes_count Srl = true
takes_count Sra = true
takes_count Rol = true
takes_count Ror = true
takes_count _ = false

-- What each operation on two numbers gives. `int_div` rounds towards zero, and `int_rem`, its remainder, has the dividend's
-- sign. `int_shr` halves so many times and rounds down, as a shift does that copies the sign: by all bits it leaves nothing
-- but signs, and more do no more.
abbrev pub binary_value : BinaryOp → ℕ → ℕ → ℕ → ℕ
binary_value Add bits a b = wrapped bits (pos a +ℤ pos b)
binary_value Sub bits a b = wrapped bits (pos a -ℤ pos b)
binary_value Mul bits a b = wrapped bits (pos (a * b))
binary_value Div bits a b = wrapped bits (int_div (as_signed bits a) (as_signed bits b))
binary_value Udiv bits a b = a / b
binary_value Mod bits a b = wrapped bits (int_rem (as_signed bits a) (as_signed bits b))
binary_value Umod bits a b = a % b
binary_value And bits a b = bit_and a b
binary_value Or bits a b = bit_or a b
binary_value Xor bits a b = bit_xor a b
binary_value Sll bits a b = if nat_lt b bits then wrapped bits (pos (a * 2 ^ b)) else 0
binary_value Srl bits a b = if nat_lt b bits then a / 2 ^ b else 0
binary_value Sra bits a b = wrapped bits (int_shr (as_signed bits a) (min b bits))
binary_value Rol bits a b = rotated bits (b % bits) a
binary_value Ror bits a b = rotated bits (bits - b % bits) a
binary_value Eq bits a b = flag (a == b)
binary_value Ne bits a b = flag (not (a == b))
binary_value Lt bits a b = flag (int_lt (as_signed bits a) (as_signed bits b))
binary_value Le bits a b = flag (int_le (as_signed bits a) (as_signed bits b))
binary_value Gt bits a b = flag (int_lt (as_signed bits b) (as_signed bits a))
binary_value Ge bits a b = flag (int_le (as_signed bits b) (as_signed bits a))
binary_value Ltu bits a b = flag (nat_lt a b)
binary_value Leu bits a b = flag (nat_le a b)
binary_value Gtu bits a b = flag (nat_lt b a)
binary_value Geu bits a b = flag (nat_le b a)

-- The answer: what the operation gives, or that it divides by 0.
abbrev pub binary_answer : BinaryOp → ℕ → ℕ → ℕ → Result ℕ DivideByZero
binary_answer op bits a b = if divides op && b == 0 then Err (record {}) else Ok (binary_value op bits a b)

-- What each operation on two numbers and a carry gives. The flags speak of sums and differences before any bit is lost.
abbrev pub ternary_value : TernaryOp → ℕ → ℕ → ℕ → ℕ → ℕ
ternary_value Addc bits a b c = wrapped bits (pos (a + b + c))
ternary_value Subc bits a b c = wrapped bits (pos a -ℤ pos (b + c))
ternary_value AddCflag bits a b c = flag (nat_le (2 ^ bits) (a + b + c))
ternary_value AddOflag bits a b c = flag (overflows bits (as_signed bits a +ℤ as_signed bits b +ℤ pos c))
ternary_value SubCflag bits a b c = flag (nat_lt a (b + c))
ternary_value SubOflag bits a b c = flag (overflows bits (as_signed bits a -ℤ as_signed bits b -ℤ pos c))

-- The value of one mode in another: extended by its sign, where the first mode has one, or cut.
abbrev pub converted : Mode → Mode → ℕ → ℕ
converted from to a = wrapped (bits_of to) (if is_signed from then as_signed (bits_of from) a else pos a)
