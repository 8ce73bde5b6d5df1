-- How many items an expression may have, and as what each of them stands, by its place. What stands so is what stands in order.
use Rattle.std.specs.Prelude.{ℕ, zero, suc, Bool, true, false, not, ◌&&◌, ◌||◌, ◌==◌, nat_lt, nat_le, if◌then◌else◌, List, [], ◌∷◌, ℤ, pos, negsuc, Option, is_some}
use Rattle.cg_base.specs.declared.mode.Mode.{Mode}
use Rattle.cg_model.specs.Formed.{As, expression, named, declared, arm, Standing, is_moded, is_numbered, is_zero}
use Rattle.cg_model.specs.declared.rtl.Op.{Op}
use Rattle.cg_model.specs.declared.rtl.Op.TheVariants as op
use Rattle.cg_desc_check_values.specs.declared.place.Place.{Place}
use Rattle.cg_desc_check_values.specs.declared.place.Place.TheVariants as place

abbrev pub as_of : Place → As
as_of place.Expression = expression
as_of place.Named = named
as_of place.Declared = declared
as_of (place.Arm of_case is_last) = arm of_case is_last

-- A mode is there where the operation has one, and the number is 0 where it says nothing.
abbrev pub is_head : Op → Option Mode → ℤ → Bool
is_head o mode n = (not (is_moded o) || is_some mode) && (is_numbered o || is_zero n)

-- A number is below a count.
abbrev pub is_below : ℤ → ℕ → Bool
is_below (pos n) count = nat_lt n count
is_below (negsuc n) count = false

abbrev pub has_items : Op → ℤ → ℕ → Bool
has_items op.Unary n len = len == 1
has_items op.Binary n len = len == 2
has_items op.Ternary n len = len == 3
has_items op.AndIf n len = nat_le 2 len
has_items op.OrIf n len = nat_le 2 len
has_items op.Ext n len = len == 1
has_items op.Zext n len = len == 1
has_items op.Trunc n len = len == 1
has_items op.Subword n len = len == 1
has_items op.Join n len = nat_lt 1 len
has_items op.If n len = nat_le 2 len && nat_le len 3
has_items op.Cond n len = nat_le 1 len
has_items op.Case n len = nat_le 2 len
has_items op.Sequence n len = is_below n len
has_items op.Parallel n len = nat_le 1 len
has_items op.Set n len = len == 2
has_items op.Reg n len = nat_le len 1
has_items op.RawReg n len = nat_le len 1
has_items op.Mem n len = len == 1
has_items op.Delay n len = len == 1
has_items op.Halt n len = len == 1
has_items _ n len = len == 0

abbrev pub has_arm_items : Bool → Bool → ℤ → ℕ → Bool
has_arm_items of_case last (pos zero) len = last && nat_lt 0 len
has_arm_items true last (pos (suc n)) len = nat_lt (suc n) len
has_arm_items false last (pos (suc zero)) len = nat_lt 1 len
has_arm_items of_case last n len = false

-- The first so many stand as this, and expressions behind them.
abbrev pub front : As → ℕ → ℕ → As
front first count k = if nat_lt k count then first else expression

abbrev pub front_by : As → ℤ → ℕ → As
front_by first (pos n) k = front first n k
front_by first (negsuc n) k = expression

-- Arms, of which the last is the one with which there are so many items.
abbrev pub arms : Bool → ℕ → ℕ → As
arms of_case len k = arm of_case (suc k == len)

abbrev pub cases : ℕ → ℕ → As
cases len zero = expression
cases len (suc k) = arm true (suc (suc k) == len)

abbrev pub item_place : Op → ℤ → ℕ → ℕ → As
item_place op.Join n len k = front declared 1 k
item_place op.Sequence n len k = front_by declared n k
item_place op.Cond n len k = arms false len k
item_place op.Case n len k = cases len k
item_place _ n len k = expression

abbrev pub arm_item_place : Bool → ℤ → ℕ → As
arm_item_place true n k = front_by named n k
arm_item_place false n k = expression

-- The same of an expression that stands as this itself.
abbrev pub counts : Op → ℤ → As → ℕ → Bool
counts o n (arm of_case last) len = has_arm_items of_case last n len
counts o n own len = has_items o n len

abbrev pub place_of : Op → ℤ → As → ℕ → ℕ → As
place_of o n (arm of_case last) len k = arm_item_place of_case n k
place_of o n own len k = item_place o n len k

-- Items from a place on, each as what its place says.
abbrev pub each_at : (ℕ → As) → ℕ → List Standing → Bool
each_at at k [] = true
each_at at k (x ∷ xs) = x (at k) && each_at at (suc k) xs
