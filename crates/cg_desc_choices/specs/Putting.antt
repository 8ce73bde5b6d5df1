-- An expression with what stands for operands put in their place.
use Rattle.std.specs.Prelude.{ℕ, zero, suc, ◌-◌, Bool, not, if◌then◌else◌, List, [], ◌∷◌, ◌++◌, map, filter, length, take, drop, Option, Some, None, codes}
use Rattle.cg_base.specs.declared.form.Form.{Form, out-Form}
use Rattle.cg_base.specs.declared.form.Form.TheOpen.{Symbol, Items}
use Rattle.cg_base.specs.declared.form.Form.TheVariants as form
use Rattle.cg_base.specs.Parts.{◌>>=◌, Layer, Headed, headed, elements_of}
use Rattle.cg_base.specs.Refusing.{first}
use Rattle.cg_base.specs.Texts.{same_text, is_among}
use Rattle.cg_model.specs.declared.rtl.Op.TheVariants as op
use Rattle.cg_rtl.specs.Shapes.{first_symbol, behind_mode, is_else, deepest}
use Rattle.cg_rtl_resolve.specs.declared.function.Function.{Function}
use Rattle.cg_rtl_resolve.specs.declared.function.Function.TheVariants as function
use Rattle.cg_rtl_resolve.specs.Names.{function_of, elements_first, local_name}
use Rattle.cg_desc_choices.specs.declared.stand.Stand.{Stand}

-- The first of these that stands for a name.
abbrev pub stand_for : List ℕ → List Stand → Option Stand
stand_for name [] = None
stand_for name (s ∷ ss) = if same_text s.name name then Some s else stand_for name ss

abbrev pub getter_in : Option Stand → Form → Form
getter_in None f = f
getter_in (Some s) f = s.getter

abbrev pub setter_in : Option Stand → Option Form
setter_in None = None
setter_in (Some s) = s.setter

-- Locals hide what has their names.
abbrev pub is_unhidden : List (List ℕ) → Stand → Bool
is_unhidden locals s = not (is_among locals s.name)

abbrev pub unhidden : List (List ℕ) → List Stand → List Stand
unhidden locals ss = filter (is_unhidden locals) ss

-- In a setter `newval` is the value that is set.
abbrev pub new_value : Form → List Stand
new_value value = record { name = codes "newval"; getter = value; setter = None } ∷ []

-- Expressions with what stands for names put in, by `within`, which puts it into one.
abbrev pub Within : Type 0
Within = List Stand → Form → Form

-- The first form stays; what stands behind it are expressions.
abbrev pub put_behind : Within → List Stand → List Form → List Form
put_behind within ss fs = take 1 fs ++ map (within ss) (drop 1 fs)

-- An arm of a `cond` is a test and expressions, one of a `case` values and expressions; behind `else` stand expressions.
abbrev pub arm_items : Within → List Stand → List Form → List Form
arm_items within ss fs = if is_else fs then put_behind within ss fs else map (within ss) fs

abbrev pub arm_of : Within → List Stand → Form → Option (List Form) → Form
arm_of within ss f None = f
arm_of within ss f (Some fs) = form.Items (arm_items within ss fs)

abbrev pub put_arm : Within → List Stand → Form → Form
put_arm within ss f = arm_of within ss f (elements_of f)

abbrev pub choice_of : Within → List Stand → Form → Option (List Form) → Form
choice_of within ss f None = f
choice_of within ss f (Some fs) = form.Items (put_behind within ss fs)

abbrev pub put_choice : Within → List Stand → Form → Form
put_choice within ss f = choice_of within ss f (elements_of f)

-- The items behind a function's name and mode.
abbrev pub put_items : Within → List Stand → List Form → Function → List Form
put_items within ss fs (function.Operation o n) = map (within ss) fs
put_items within ss fs (function.Behind o) = put_behind within ss fs
put_items within ss fs function.Constant = fs
put_items within ss fs function.Subword = map (within ss) (take 1 fs) ++ drop 1 fs
put_items within ss fs function.Join = put_behind within ss fs
put_items within ss fs function.Cond = map (put_arm within ss) fs
put_items within ss fs function.Case = map (within ss) (take 1 fs) ++ map (put_choice within ss) (drop 1 fs)
put_items within ss fs function.Sequence = put_behind within (unhidden (map local_name (elements_first fs)) ss) fs
put_items within ss fs function.Delay = put_behind within ss fs
put_items within ss fs function.Error = fs
put_items within ss fs function.FieldNamed = fs
put_items within ss fs (function.Register o) = put_behind within ss fs
put_items within ss fs function.IndexOf = fs

-- A mode that is written in front of the items stays.
abbrev pub mode_written : List Form → List Form
mode_written fs = take (length fs - length (behind_mode fs)) fs

abbrev pub plain_call : Within → List Stand → List ℕ → List Form → Function → Form
plain_call within ss name fs f = form.Items (form.Symbol name ∷ mode_written fs ++ put_items within ss (behind_mode fs) f)

-- What is done where an operand is set that has a setter: the setter, in which the value stands for `newval`.
abbrev pub set_by : Within → List Stand → Form → Option Form → Option Form → Form
set_by within ss plain (Some setter) (Some value) = within (new_value (within ss value)) setter
set_by within ss plain _ _ = plain

abbrev pub setter_first : List Stand → List Form → Option Form
setter_first ss fs = first_symbol fs >>= λ name. setter_in (stand_for name ss)

abbrev pub set_call : Within → List Stand → List ℕ → List Form → Function → Form
set_call within ss name fs f =
    set_by within ss (plain_call within ss name fs f) (setter_first ss (behind_mode fs)) (first (drop 1 (behind_mode fs)))

abbrev pub put_call : Within → List Stand → List ℕ → List Form → Function → Form
put_call within ss name fs (function.Operation op.Set n) = set_call within ss name fs (function.Operation op.Set n)
put_call within ss name fs f = plain_call within ss name fs f

abbrev pub put_known : Within → List Stand → Form → List ℕ → List Form → Option Function → Form
put_known within ss f name fs None = f
put_known within ss f name fs (Some g) = put_call within ss name fs g

abbrev pub put_list : Within → List Stand → Form → Option Headed → Form
put_list within ss f None = f
put_list within ss f (Some x) = put_known within ss f x.0 x.1 (function_of x.0)

abbrev pub put_layer : List Stand → Form → Form → Layer → Form
put_layer ss f called (Symbol name) = getter_in (stand_for name ss) f
put_layer ss f called (Items fs) = called
put_layer ss f called _ = f

-- So many lists inwards.
abbrev pub put_to : ℕ → Within
put_to zero ss f = f
put_to (suc depth) ss f = put_layer ss f (put_list (put_to depth) ss f (headed f)) (out-Form f)

-- The expression with what stands for names put in their place.
unfoldable pub put : List Stand → Form → Form
put ss f = put_to deepest ss f
