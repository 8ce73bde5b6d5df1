-- What stands in an expression, from left to right: its nodes, and in their places the names that stand for nothing.
use Rattle.std.specs.Prelude.{ℕ, zero, suc, ◌+◌, ◌-◌, if◌then◌else◌, List, [], ◌∷◌, ◌++◌, map, length, take, drop, ℤ, pos, Option, Some, None}
use Rattle.std.specs.Option.{option_or, option_map}
use Rattle.cg_base.specs.declared.form.Form.{Form, out-Form}
use Rattle.cg_base.specs.declared.form.Form.TheOpen.{Number, Symbol, Str, Flag, Items}
use Rattle.cg_base.specs.declared.mode.Mode.{Mode}
use Rattle.cg_base.specs.Parts.{Layer, Headed, headed}
use Rattle.cg_model.specs.declared.rtl.Op.{Op}
use Rattle.cg_model.specs.declared.rtl.Op.TheVariants as op
use Rattle.cg_model.specs.declared.rtl.Rtl.{Rtl, out-Rtl}
use Rattle.cg_rtl.specs.Shapes.{behind_mode, is_else, deepest}
use Rattle.cg_rtl_resolve.specs.declared.scope.Scope.{Scope}
use Rattle.cg_rtl_resolve.specs.declared.function.Function.{Function}
use Rattle.cg_rtl_resolve.specs.declared.function.Function.TheVariants as function
use Rattle.cg_rtl_uses.specs.declared.uses.Use.{Use}
use Rattle.cg_rtl_uses.specs.declared.uses.Use.TheVariants.{Node, Constant, Undefined, Unknown}
use Rattle.cg_rtl_uses.specs.declared.uses.PlacedUse.{PlacedUse}
use Rattle.cg_rtl_resolve.specs.Names.{number_named, numbered, last_place, enum_value, named_by_rule, bare_field, mode_first, function_of, field_named, operand_index, value_named, number_first, name_first, elements_first, elements_or_none, local_name}

-- What stands at one place: a node, which is an operation with its mode and its number; a bare symbol that is a constant of an enum, with its
-- value; a name that isn't defined by its kind; or a bare symbol that names nothing at all. Its place in an expression is the places of elements
-- in their lists, from the outermost list inwards.
abbrev pub here : Use → PlacedUse
here u = record { place = []; what = u }

abbrev pub inside : ℕ → PlacedUse → PlacedUse
inside k u = record { place = k ∷ u.place; what = u.what }

abbrev pub at : ℕ → List PlacedUse → List PlacedUse
at k us = map (inside k) us

-- Those of forms that stand from a place on.
abbrev pub each_at : (Form → List PlacedUse) → ℕ → List Form → List PlacedUse
each_at uses k [] = []
each_at uses k (f ∷ fs) = at k (uses f) ++ each_at uses (suc k) fs

abbrev pub use_of : Rtl → Use
use_of r = Node (out-Rtl r).op (out-Rtl r).mode (out-Rtl r).number

-- What a name stands for, or that it isn't defined.
abbrev pub named_use : List ℕ → Option Rtl → Use
named_use name None = Undefined name
named_use name (Some r) = use_of r

-- A bare symbol is a local, a name of the rule, a field where the expression is pure, or an operand; else a constant.
abbrev pub named_before : Scope → List (List ℕ) → List ℕ → Option Rtl
named_before s l name =
    option_or (numbered op.Local None (option_map pos (last_place name l)))
    (option_or (named_by_rule s name) (option_or (bare_field s name) (numbered op.OperandRef None (number_named name s.operands))))

abbrev pub constant_use : List ℕ → Option ℤ → Use
constant_use name None = Unknown name
constant_use name (Some n) = Constant name n

abbrev pub symbol_by : Scope → List ℕ → Option Rtl → Use
symbol_by s name None = constant_use name (enum_value name s.enums)
symbol_by s name (Some r) = use_of r

unfoldable pub symbol_use : Scope → List (List ℕ) → List ℕ → Use
symbol_use s l name = symbol_by s name (named_before s l name)

-- The uses of expressions, by `within`, which has those of one among these locals.
abbrev pub Within : Type 0
Within = List (List ℕ) → Form → List PlacedUse

abbrev pub arm_use : ℕ → PlacedUse
arm_use tests = here (Node op.Arm None (pos tests))

abbrev pub arm_uses : Within → List (List ℕ) → List Form → List PlacedUse
arm_uses within l fs = if is_else fs then arm_use 0 ∷ each_at (within l) 1 (drop 1 fs) else arm_use 1 ∷ each_at (within l) 0 fs

abbrev pub arm_uses_of : Within → List (List ℕ) → Form → List PlacedUse
arm_uses_of within l f = arm_uses within l (elements_or_none f)

abbrev pub value_use : Scope → Form → List PlacedUse
value_use s f = here (named_use (name_first (f ∷ [])) (value_named s f)) ∷ []

abbrev pub choice_by : Scope → Within → List (List ℕ) → List Form → List Form → List PlacedUse
choice_by s within l values rest = arm_use (length values) ∷ at 0 (each_at (value_use s) 0 values) ++ each_at (within l) 1 rest

abbrev pub choice_uses : Scope → Within → List (List ℕ) → List Form → List PlacedUse
choice_uses s within l fs =
    if is_else fs then arm_use 0 ∷ each_at (within l) 1 (drop 1 fs) else choice_by s within l (elements_first fs) (drop 1 fs)

abbrev pub choice_uses_of : Scope → Within → List (List ℕ) → Form → List PlacedUse
choice_uses_of s within l f = choice_uses s within l (elements_or_none f)

abbrev pub declare_use : ℕ → List Form → PlacedUse
declare_use bits fs = here (Node op.Declare (mode_first bits fs) (pos 0))

abbrev pub local_use : ℕ → Form → List PlacedUse
local_use bits f = declare_use bits (elements_or_none f) ∷ []

abbrev pub sequence_uses : Scope → Within → List (List ℕ) → ℕ → Option Mode → List Form → List Form → List PlacedUse
sequence_uses s within l k mode locals rest =
    here (Node op.Sequence mode (pos (length locals))) ∷ at k (each_at (local_use s.word_bits) 0 locals)
    ++ each_at (within (l ++ map local_name locals)) (k + 1) rest

abbrev pub register_use : ℕ → Op → Option Mode → List ℕ → Option ℤ → PlacedUse
register_use k o mode name None = inside k (here (Undefined name))
register_use k o mode name (Some n) = here (Node o mode n)

abbrev pub operand_use : ℕ → List ℕ → Option Rtl → PlacedUse
operand_use k name None = inside k (here (Undefined name))
operand_use k name (Some r) = here (use_of r)

-- Those of a function whose mode is this, and whose items stand from place k on, behind its name and mode.
abbrev pub function_uses : Scope → Within → List (List ℕ) → ℕ → Option Mode → List Form → Function → List PlacedUse
function_uses s within l k mode fs (function.Operation o n) = here (Node o mode (pos n)) ∷ each_at (within l) k fs
function_uses s within l k mode fs (function.Behind o) = here (Node o mode (pos 0)) ∷ each_at (within l) (k + 1) (drop 1 fs)
function_uses s within l k mode fs function.Constant = here (Node op.Number mode (number_first fs)) ∷ []
function_uses s within l k mode fs function.Subword = here (Node op.Subword mode (number_first (drop 1 fs))) ∷ each_at (within l) k (take 1 fs)
function_uses s within l k mode fs function.Join = here (Node op.Join mode (pos 0)) ∷ inside k (declare_use s.word_bits fs) ∷ each_at (within l) (k + 1) (drop 1 fs)
function_uses s within l k mode fs function.Cond = here (Node op.Cond mode (pos 0)) ∷ each_at (arm_uses_of within l) k fs
function_uses s within l k mode fs function.Case = here (Node op.Case mode (pos 0)) ∷ each_at (within l) k (take 1 fs) ++ each_at (choice_uses_of s within l) (k + 1) (drop 1 fs)
function_uses s within l k mode fs function.Sequence = sequence_uses s within l k mode (elements_first fs) (drop 1 fs)
function_uses s within l k mode fs function.Delay = here (Node op.Delay mode (number_first fs)) ∷ each_at (within l) (k + 1) (drop 1 fs)
function_uses s within l k mode fs function.Error = here (Node op.Error mode (pos 0)) ∷ []
function_uses s within l k mode fs function.FieldNamed = here (named_use (name_first fs) (field_named s mode (name_first fs))) ∷ []
function_uses s within l k mode fs (function.Register o) = register_use k o mode (name_first fs) (number_named (name_first fs) s.hardware) ∷ each_at (within l) (k + 1) (drop 1 fs)
function_uses s within l k mode fs function.IndexOf = operand_use k (name_first fs) (operand_index s mode (name_first fs)) ∷ []

-- Items stand behind the function's name, and behind its mode, where one is written.
abbrev pub first_item : List Form → ℕ
first_item behind = 1 + (length behind - length (behind_mode behind))

abbrev pub known_uses : Scope → Within → List (List ℕ) → List Form → Option Function → List PlacedUse
known_uses s within l behind None = []
known_uses s within l behind (Some f) = function_uses s within l (first_item behind) (mode_first s.word_bits behind) (behind_mode behind) f

abbrev pub call_uses : Scope → Within → List (List ℕ) → Option Headed → List PlacedUse
call_uses s within l None = []
call_uses s within l (Some x) = known_uses s within l x.1 (function_of x.0)

abbrev pub layer_uses : Scope → List (List ℕ) → List PlacedUse → Layer → List PlacedUse
layer_uses s l called (Number n) = here (Node op.Number None n) ∷ []
layer_uses s l called (Symbol name) = here (symbol_use s l name) ∷ []
layer_uses s l called (Str text) = []
layer_uses s l called (Flag b) = []
layer_uses s l called (Items fs) = called

-- Those of an expression among these locals, so many lists inwards.
abbrev pub uses_to : ℕ → Scope → Within
uses_to zero s l f = []
uses_to (suc depth) s l f = layer_uses s l (call_uses s (uses_to depth s) l (headed f)) (out-Form f)

-- What stands in an expression.
unfoldable pub uses_of : Scope → Form → List PlacedUse
uses_of s f = uses_to deepest s [] f
