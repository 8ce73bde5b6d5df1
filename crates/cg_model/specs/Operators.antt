-- The operations of expressions by their places, and what numbers name.
use Rattle.std.specs.Prelude.{ℕ, Bool, true, false, ◌==◌, if◌then◌else◌, List, [], ◌∷◌, ℤ, pos, negsuc, Option, None, slice_get}
use Rattle.cg_base.specs.declared.UnaryOp.{UnaryOp}
use Rattle.cg_base.specs.declared.UnaryOp.TheVariants.{Neg, Inv, Not, Abs}
use Rattle.cg_base.specs.declared.BinaryOp.{BinaryOp}
use Rattle.cg_base.specs.declared.BinaryOp.TheVariants.{Add, Sub, Mul, Div, Udiv, Mod, Umod, And, Or, Xor, Sll, Srl, Sra, Rol, Ror, Eq, Ne, Lt, Le, Gt, Ge, Ltu, Leu, Gtu, Geu}
use Rattle.cg_base.specs.declared.TernaryOp.{TernaryOp}
use Rattle.cg_base.specs.declared.TernaryOp.TheVariants.{Addc, Subc, AddCflag, AddOflag, SubCflag, SubOflag}
use Rattle.cg_base.specs.Operations.{takes_count}
use Rattle.cg_model.specs.declared.judged.Kind.{Kind}
use Rattle.cg_model.specs.declared.judged.Kind.TheVariants.{Arithmetic, Shift, Comparison}

-- What a number names in a list. A negative one names nothing.
abbrev pub at_number : {A : Type 0} → List A → ℤ → Option A
at_number xs (pos n) = slice_get xs n
at_number xs (negsuc n) = None

abbrev pub unary_ops : List UnaryOp
unary_ops = Neg ∷ Inv ∷ Not ∷ Abs ∷ []

abbrev pub binary_ops : List BinaryOp
binary_ops = Add ∷ Sub ∷ Mul ∷ Div ∷ Udiv ∷ Mod ∷ Umod ∷ And ∷ Or ∷ Xor ∷ Sll ∷ Srl ∷ Sra ∷ Rol ∷ Ror ∷ Eq ∷ Ne ∷ Lt ∷ Le ∷ Gt ∷ Ge ∷ Ltu ∷ Leu ∷ Gtu ∷ Geu ∷ []

abbrev pub ternary_ops : List TernaryOp
ternary_ops = Addc ∷ Subc ∷ AddCflag ∷ AddOflag ∷ SubCflag ∷ SubOflag ∷ []

abbrev pub is_comparison : BinaryOp → Bool
is_comparison Eq = true
is_comparison Ne = true
is_comparison Lt = true
is_comparison Le = true
is_comparison Gt = true
is_comparison Ge = true
is_comparison Ltu = true
is_comparison Leu = true
is_comparison Gtu = true
is_comparison Geu = true
is_comparison _ = false

-- Which kind an operation on two numbers is of.
unfoldable pub kind_of : BinaryOp → Kind
kind_of o = if takes_count o then Shift else if is_comparison o then Comparison else Arithmetic

-- The two that stay in their operands' mode. The other four give one bit.
abbrev pub keeps_mode : TernaryOp → Bool
keeps_mode Addc = true
keeps_mode Subc = true
keeps_mode _ = false
