-- What the names of an expression stand for (docs/LANGUAGE.md, "Names in expressions").
use Rattle.std.specs.Prelude.{ℕ, zero, suc, Bool, true, false, if◌then◌else◌, List, [], ◌∷◌, ◌++◌, map, length, take, drop, ℤ, pos, Option, Some, None, codes}
use Rattle.std.specs.List.{flat_map}
use Rattle.std.specs.Option.{option_or, option_map, unwrap_or}
use Rattle.cg_base.specs.declared.form.Form.{Form, out-Form}
use Rattle.cg_base.specs.declared.form.Form.TheOpen.{Number, Symbol, Str, Flag, Items}
use Rattle.cg_base.specs.declared.mode.Mode.{Mode}
use Rattle.cg_base.specs.declared.mode.Mode.TheVariants.{Bi, Qi, Hi, Si, Di, Uqi, Uhi, Usi, Udi, Void}
use Rattle.cg_base.specs.Parts.{◌>>=◌, Layer, Headed, headed, string_of, number_of, elements_of}
use Rattle.cg_base.specs.Refusing.{first}
use Rattle.cg_base.specs.Texts.{same_text}
use Rattle.cg_base.specs.Modes.{word_mode, address_mode}
use Rattle.cg_model.specs.declared.rtl.Op.{Op}
use Rattle.cg_model.specs.declared.rtl.Op.TheVariants as op
use Rattle.cg_model.specs.declared.rtl.Rtl.{Rtl, roll-Rtl}
use Rattle.cg_rtl.specs.Shapes.{first_symbol, behind_mode, is_else, deepest}
use Rattle.cg_rtl_resolve.specs.declared.scope.EnumValue.{EnumValue}
use Rattle.cg_rtl_resolve.specs.declared.scope.Rule.{Rule}
use Rattle.cg_rtl_resolve.specs.declared.scope.Rule.TheVariants as rule
use Rattle.cg_rtl_resolve.specs.declared.scope.Scope.{Scope}
use Rattle.cg_rtl_resolve.specs.declared.scope.Lack.{Lack}
use Rattle.cg_rtl_resolve.specs.declared.scope.Lack.TheVariants.{Undefined, Unknown}
use Rattle.cg_rtl_resolve.specs.declared.words.Wording.{Wording}
use Rattle.cg_rtl_resolve.specs.declared.words.Wording.TheVariants as wording
use Rattle.cg_rtl_resolve.specs.declared.function.Function.{Function}
use Rattle.cg_rtl_resolve.specs.declared.function.Function.TheVariants as function

-- The first place of a name.
abbrev pub place_of : List ℕ → List (List ℕ) → Option ℕ
place_of name [] = None
place_of name (x ∷ xs) = if same_text x name then Some 0 else option_map suc (place_of name xs)

-- The number of a name: its first place.
unfoldable pub number_named : List ℕ → List (List ℕ) → Option ℤ
number_named name names = option_map pos (place_of name names)

-- The last place of a name: that of the innermost local that has it.
abbrev pub last_place : List ℕ → List (List ℕ) → Option ℕ
last_place name [] = None
last_place name (x ∷ xs) = option_or (option_map suc (last_place name xs)) (if same_text x name then Some 0 else None)

-- The value of the first constant of a name.
abbrev pub enum_value : List ℕ → List EnumValue → Option ℤ
enum_value name [] = None
enum_value name (x ∷ xs) = if same_text x.name name then Some x.value else enum_value name xs

-- What stands at the first place of a key.
abbrev pub found_under : {A : Type 0} → List ℕ → List (List ℕ × A) → Option A
found_under name [] = None
found_under name (x ∷ xs) = if same_text x.0 name then Some x.1 else found_under name xs

-- What the words for modes say.
unfoldable pub mode_words : List (List ℕ × Wording)
mode_words =
    (codes "BI", wording.Plain Bi) ∷ (codes "QI", wording.Plain Qi) ∷ (codes "HI", wording.Plain Hi) ∷ (codes "SI", wording.Plain Si) ∷ (codes "DI", wording.Plain Di) ∷ (codes "UQI", wording.Plain Uqi) ∷ (codes "UHI", wording.Plain Uhi) ∷ (codes "USI", wording.Plain Usi) ∷ (codes "UDI", wording.Plain Udi) ∷ (codes "INT", wording.Plain Si) ∷ (codes "UINT", wording.Plain Usi) ∷ (codes "WI", wording.Word) ∷ (codes "UWI", wording.Address) ∷ (codes "AI", wording.Address) ∷ (codes "IAI", wording.Address) ∷ (codes "VOID", wording.Plain Void) ∷ []

abbrev pub meant : ℕ → Wording → Mode
meant bits (wording.Plain mode) = mode
meant bits wording.Word = word_mode bits
meant bits wording.Address = address_mode bits

-- The mode that a word stands for, where the cpu's word has so many bits. `DFLT` stands for none.
abbrev pub mode_named : ℕ → List ℕ → Option Mode
mode_named bits word = option_map (meant bits) (found_under word mode_words)

-- The mode that is written first.
abbrev pub mode_first : ℕ → List Form → Option Mode
mode_first bits fs = first_symbol fs >>= mode_named bits

-- How each function is read: an operation of this kind and number on items that are expressions, or one that has a shape of its own.
unfoldable pub readings : List (List ℕ × Function)
readings =
    (codes "neg", function.Operation op.Unary 0) ∷ (codes "inv", function.Operation op.Unary 1) ∷ (codes "not", function.Operation op.Unary 2) ∷ (codes "abs", function.Operation op.Unary 3) ∷
    (codes "add", function.Operation op.Binary 0) ∷ (codes "sub", function.Operation op.Binary 1) ∷ (codes "mul", function.Operation op.Binary 2) ∷ (codes "div", function.Operation op.Binary 3) ∷ (codes "udiv", function.Operation op.Binary 4) ∷ (codes "mod", function.Operation op.Binary 5) ∷ (codes "umod", function.Operation op.Binary 6) ∷ (codes "and", function.Operation op.Binary 7) ∷ (codes "or", function.Operation op.Binary 8) ∷ (codes "xor", function.Operation op.Binary 9) ∷ (codes "sll", function.Operation op.Binary 10) ∷ (codes "srl", function.Operation op.Binary 11) ∷ (codes "sra", function.Operation op.Binary 12) ∷ (codes "rol", function.Operation op.Binary 13) ∷ (codes "ror", function.Operation op.Binary 14) ∷ (codes "eq", function.Operation op.Binary 15) ∷ (codes "ne", function.Operation op.Binary 16) ∷ (codes "lt", function.Operation op.Binary 17) ∷ (codes "le", function.Operation op.Binary 18) ∷ (codes "gt", function.Operation op.Binary 19) ∷ (codes "ge", function.Operation op.Binary 20) ∷ (codes "ltu", function.Operation op.Binary 21) ∷ (codes "leu", function.Operation op.Binary 22) ∷ (codes "gtu", function.Operation op.Binary 23) ∷ (codes "geu", function.Operation op.Binary 24) ∷
    (codes "addc", function.Operation op.Ternary 0) ∷ (codes "subc", function.Operation op.Ternary 1) ∷ (codes "add-cflag", function.Operation op.Ternary 2) ∷ (codes "add-oflag", function.Operation op.Ternary 3) ∷ (codes "sub-cflag", function.Operation op.Ternary 4) ∷ (codes "sub-oflag", function.Operation op.Ternary 5) ∷
    (codes "andif", function.Operation op.AndIf 0) ∷ (codes "orif", function.Operation op.OrIf 0) ∷ (codes "ext", function.Operation op.Ext 0) ∷ (codes "zext", function.Operation op.Zext 0) ∷ (codes "trunc", function.Operation op.Trunc 0) ∷ (codes "if", function.Operation op.If 0) ∷ (codes "set", function.Operation op.Set 0) ∷ (codes "set-quiet", function.Operation op.Set 0) ∷ (codes "mem", function.Operation op.Mem 0) ∷ (codes "nop", function.Operation op.Nop 0) ∷
    (codes "const", function.Constant) ∷ (codes "subword", function.Subword) ∷ (codes "join", function.Join) ∷ (codes "cond", function.Cond) ∷ (codes "case", function.Case) ∷ (codes "sequence", function.Sequence) ∷ (codes "parallel", function.Behind op.Parallel) ∷ (codes "delay", function.Delay) ∷ (codes "error", function.Error) ∷ (codes "c-call", function.Behind op.Halt) ∷ (codes "ifield", function.FieldNamed) ∷ (codes "reg", function.Register op.Reg) ∷ (codes "raw-reg", function.Register op.RawReg) ∷ (codes "index-of", function.IndexOf) ∷ []

unfoldable pub function_of : List ℕ → Option Function
function_of name = found_under name readings

abbrev pub node : Op → Option Mode → ℤ → List Rtl → Rtl
node o mode number items = roll-Rtl (record { op = o; mode = mode; number = number; items = items })

abbrev pub leaf : Op → Option Mode → ℤ → Rtl
leaf o mode number = node o mode number []

-- What stands where an expression has no meaning.
abbrev pub nothing : Rtl
nothing = leaf op.Nop None (pos 0)

-- What a name stands for where it has a number.
abbrev pub numbered : Op → Option Mode → Option ℤ → Option Rtl
numbered o mode None = None
numbered o mode (Some n) = Some (leaf o mode n)

abbrev pub given_where : Bool → Rtl → Option Rtl
given_where holds r = if holds then Some r else None

-- The names of rules: the pc everywhere, the index and the new value of hardware, the value of a field.
abbrev pub rule_name : Rule → Option Mode → List ℕ → Option Rtl
rule_name rule.Get own name = given_where (same_text name (codes "index")) (leaf op.Index None (pos 0))
rule_name rule.Set own name =
    if same_text name (codes "index") then Some (leaf op.Index None (pos 0)) else given_where (same_text name (codes "newval")) (leaf op.NewVal own (pos 0))
rule_name rule.Encode own name = given_where (same_text name (codes "value")) (leaf op.Value own (pos 0))
rule_name rule.Decode own name = given_where (same_text name (codes "value")) (leaf op.Value own (pos 0))
rule_name _ own name = None

abbrev pub named_by_rule : Scope → List ℕ → Option Rtl
named_by_rule s name = if same_text name (codes "pc") then Some (leaf op.Pc None (pos 0)) else rule_name s.rule s.own name

-- In the expressions of `insert` the multi field itself is the value.
abbrev pub is_own : Rule → List ℕ → Bool
is_own (rule.Insert multi) name = same_text name multi
is_own _ name = false

-- A field, else a multi field.
abbrev pub field_named : Scope → Option Mode → List ℕ → Option Rtl
field_named s mode name =
    if is_own s.rule name then Some (leaf op.Value s.own (pos 0))
    else option_or (numbered op.FieldRef mode (number_named name s.fields)) (numbered op.MultiRef mode (number_named name s.multis))

-- The rules whose expressions are pure.
abbrev pub is_pure : Rule → Bool
is_pure rule.Semantics = false
is_pure rule.Get = false
is_pure rule.Set = false
is_pure _ = true

abbrev pub bare_field : Scope → List ℕ → Option Rtl
bare_field s name = if is_pure s.rule then field_named s None name else None

abbrev pub constant_named : Scope → List ℕ → Option Rtl
constant_named s name = numbered op.Number None (enum_value name s.enums)

abbrev pub operand_or_constant : Scope → List ℕ → Option Rtl
operand_or_constant s name = option_or (numbered op.OperandRef None (number_named name s.operands)) (constant_named s name)

-- A bare symbol that is no local is a name of the rule, else in a pure expression a field, else an operand, else a constant.
unfoldable pub named_beyond : Scope → List ℕ → Option Rtl
named_beyond s name =
    option_or (named_by_rule s name) (option_or (bare_field s name) (operand_or_constant s name))

-- A bare symbol is the innermost local of its name, where there is one.
abbrev pub symbol_named : Scope → List (List ℕ) → List ℕ → Option Rtl
symbol_named s l name = option_or (numbered op.Local None (option_map pos (last_place name l))) (named_beyond s name)

unfoldable pub symbol_rtl : Scope → List (List ℕ) → List ℕ → Rtl
symbol_rtl s l name = unwrap_or (symbol_named s l name) nothing

-- What expressions stand for, by `within`, which has it of one among these locals.
abbrev pub Within : Type 0
Within = List (List ℕ) → Form → Rtl

abbrev pub number_first : List Form → ℤ
number_first fs = unwrap_or (first fs >>= number_of) (pos 0)

abbrev pub name_first : List Form → List ℕ
name_first fs = unwrap_or (first_symbol fs) []

abbrev pub text_first : List Form → List ℕ
text_first fs = unwrap_or (first fs >>= string_of) []

abbrev pub elements_first : List Form → List Form
elements_first fs = unwrap_or (first fs >>= elements_of) []

-- An arm: its tests, and then what it does.
abbrev pub arm : List Rtl → List Rtl → Rtl
arm tests rest = node op.Arm None (pos (length tests)) (tests ++ rest)

abbrev pub elements_or_none : Form → List Form
elements_or_none f = unwrap_or (elements_of f) []

abbrev pub arm_of : Within → List (List ℕ) → List Form → Rtl
arm_of within l fs = if is_else fs then arm [] (map (within l) (drop 1 fs)) else node op.Arm None (pos 1) (map (within l) fs)

abbrev pub arm_at : Within → List (List ℕ) → Form → Rtl
arm_at within l f = arm_of within l (elements_or_none f)

-- A value of a `case`: a number, or the constant of this name.
abbrev pub value_in : Scope → Layer → Option Rtl
value_in s (Number n) = Some (leaf op.Number None n)
value_in s (Symbol name) = constant_named s name
value_in s _ = Some nothing

abbrev pub value_named : Scope → Form → Option Rtl
value_named s f = value_in s (out-Form f)

abbrev pub value_of : Scope → Form → Rtl
value_of s f = unwrap_or (value_named s f) nothing

abbrev pub choice_of : Scope → Within → List (List ℕ) → List Form → Rtl
choice_of s within l fs =
    if is_else fs then arm [] (map (within l) (drop 1 fs)) else arm (map (value_of s) (elements_first fs)) (map (within l) (drop 1 fs))

abbrev pub choice_at : Scope → Within → List (List ℕ) → Form → Rtl
choice_at s within l f = choice_of s within l (elements_or_none f)

-- A local is `(MODE NAME)`.
abbrev pub declare_of : ℕ → Form → Rtl
declare_of bits f = leaf op.Declare (mode_first bits (elements_or_none f)) (pos 0)

abbrev pub local_name : Form → List ℕ
local_name f = name_first (drop 1 (elements_or_none f))

abbrev pub register_named : Scope → Op → Option Mode → List ℕ → List Rtl → Option Rtl
register_named s o mode name items = elim (number_named name s.hardware) [ None ↦ None | Some n ↦ Some (node o mode n items) ]

abbrev pub operand_index : Scope → Option Mode → List ℕ → Option Rtl
operand_index s mode name = numbered op.IndexOf mode (number_named name s.operands)

abbrev pub sequence_of : Scope → Within → List (List ℕ) → Option Mode → List Form → List Form → Rtl
sequence_of s within l mode locals rest =
    node op.Sequence mode (pos (length locals)) (map (declare_of s.word_bits) locals ++ map (within (l ++ map local_name locals)) rest)

-- What a function stands for, with the mode and the items behind its name.
abbrev pub function_rtl : Scope → Within → List (List ℕ) → Option Mode → List Form → Function → Rtl
function_rtl s within l mode fs (function.Operation o n) = node o mode (pos n) (map (within l) fs)
function_rtl s within l mode fs (function.Behind o) = node o mode (pos 0) (map (within l) (drop 1 fs))
function_rtl s within l mode fs function.Constant = leaf op.Number mode (number_first fs)
function_rtl s within l mode fs function.Subword = node op.Subword mode (number_first (drop 1 fs)) (map (within l) (take 1 fs))
function_rtl s within l mode fs function.Join = node op.Join mode (pos 0) (leaf op.Declare (mode_first s.word_bits fs) (pos 0) ∷ map (within l) (drop 1 fs))
function_rtl s within l mode fs function.Cond = node op.Cond mode (pos 0) (map (arm_at within l) fs)
function_rtl s within l mode fs function.Case = node op.Case mode (pos 0) (map (within l) (take 1 fs) ++ map (choice_at s within l) (drop 1 fs))
function_rtl s within l mode fs function.Sequence = sequence_of s within l mode (elements_first fs) (drop 1 fs)
function_rtl s within l mode fs function.Delay = node op.Delay mode (number_first fs) (map (within l) (drop 1 fs))
function_rtl s within l mode fs function.Error = leaf op.Error mode (unwrap_or (number_named (text_first fs) s.texts) (pos 0))
function_rtl s within l mode fs function.FieldNamed = unwrap_or (field_named s mode (name_first fs)) nothing
function_rtl s within l mode fs (function.Register o) = unwrap_or (register_named s o mode (name_first fs) (map (within l) (drop 1 fs))) nothing
function_rtl s within l mode fs function.IndexOf = unwrap_or (operand_index s mode (name_first fs)) nothing

abbrev pub known_rtl : Scope → Within → List (List ℕ) → List Form → Option Function → Rtl
known_rtl s within l behind None = nothing
known_rtl s within l behind (Some f) = function_rtl s within l (mode_first s.word_bits behind) (behind_mode behind) f

abbrev pub call_rtl : Scope → Within → List (List ℕ) → Option Headed → Rtl
call_rtl s within l None = nothing
call_rtl s within l (Some x) = known_rtl s within l x.1 (function_of x.0)

abbrev pub layer_rtl : Scope → List (List ℕ) → Rtl → Layer → Rtl
layer_rtl s l called (Number n) = leaf op.Number None n
layer_rtl s l called (Symbol name) = symbol_rtl s l name
layer_rtl s l called (Str text) = nothing
layer_rtl s l called (Flag b) = nothing
layer_rtl s l called (Items fs) = called

-- What an expression stands for among these locals, so many lists inwards.
abbrev pub rtl_to : ℕ → Scope → Within
rtl_to zero s l f = nothing
rtl_to (suc depth) s l f = layer_rtl s l (call_rtl s (rtl_to depth s) l (headed f)) (out-Form f)

-- What an expression stands for.
unfoldable pub rtl_of : Scope → Form → Rtl
rtl_of s f = rtl_to deepest s [] f

-- A name that stands for nothing: it isn't defined by its kind (E306), or it is a bare symbol that names nothing at all (E405).
abbrev pub Lacking : Type 0
Lacking = Lack × List ℕ

abbrev pub lacks : Lack → List ℕ → Option Rtl → List Lacking
lacks lack name None = (lack, name) ∷ []
lacks lack name (Some r) = []

-- The lacking names of expressions, by `within`.
abbrev pub Lacks : Type 0
Lacks = List (List ℕ) → Form → List Lacking

unfoldable pub symbol_lacks : Scope → List (List ℕ) → List ℕ → List Lacking
symbol_lacks s l name = lacks Unknown name (symbol_named s l name)

abbrev pub value_lacks_in : Scope → Layer → List Lacking
value_lacks_in s (Symbol name) = lacks Undefined name (constant_named s name)
value_lacks_in s _ = []

abbrev pub value_lacks : Scope → Form → List Lacking
value_lacks s f = value_lacks_in s (out-Form f)

abbrev pub arm_lacks : Lacks → List (List ℕ) → List Form → List Lacking
arm_lacks within l fs = flat_map (within l) (if is_else fs then drop 1 fs else fs)

abbrev pub choice_lacks : Scope → Lacks → List (List ℕ) → List Form → List Lacking
choice_lacks s within l fs =
    if is_else fs then flat_map (within l) (drop 1 fs) else flat_map (value_lacks s) (elements_first fs) ++ flat_map (within l) (drop 1 fs)

abbrev pub arm_lacks_at : Lacks → List (List ℕ) → Form → List Lacking
arm_lacks_at within l f = arm_lacks within l (elements_or_none f)

abbrev pub choice_lacks_at : Scope → Lacks → List (List ℕ) → Form → List Lacking
choice_lacks_at s within l f = choice_lacks s within l (elements_or_none f)

abbrev pub hardware_lacks : Scope → List ℕ → List Lacking
hardware_lacks s name = elim (number_named name s.hardware) [ None ↦ (Undefined, name) ∷ [] | Some n ↦ [] ]

abbrev pub function_lacks : Scope → Lacks → List (List ℕ) → List Form → Function → List Lacking
function_lacks s within l fs (function.Operation o n) = flat_map (within l) fs
function_lacks s within l fs (function.Behind o) = flat_map (within l) (drop 1 fs)
function_lacks s within l fs function.Constant = []
function_lacks s within l fs function.Subword = flat_map (within l) (take 1 fs)
function_lacks s within l fs function.Join = flat_map (within l) (drop 1 fs)
function_lacks s within l fs function.Cond = flat_map (arm_lacks_at within l) fs
function_lacks s within l fs function.Case = flat_map (within l) (take 1 fs) ++ flat_map (choice_lacks_at s within l) (drop 1 fs)
function_lacks s within l fs function.Sequence = flat_map (within (l ++ map local_name (elements_first fs))) (drop 1 fs)
function_lacks s within l fs function.Delay = flat_map (within l) (drop 1 fs)
function_lacks s within l fs function.Error = []
function_lacks s within l fs function.FieldNamed = lacks Undefined (name_first fs) (field_named s None (name_first fs))
function_lacks s within l fs (function.Register o) = hardware_lacks s (name_first fs) ++ flat_map (within l) (drop 1 fs)
function_lacks s within l fs function.IndexOf = lacks Undefined (name_first fs) (operand_index s None (name_first fs))

abbrev pub known_lacks : Scope → Lacks → List (List ℕ) → List Form → Option Function → List Lacking
known_lacks s within l behind None = []
known_lacks s within l behind (Some f) = function_lacks s within l (behind_mode behind) f

abbrev pub call_lacks : Scope → Lacks → List (List ℕ) → Option Headed → List Lacking
call_lacks s within l None = []
call_lacks s within l (Some x) = known_lacks s within l x.1 (function_of x.0)

abbrev pub layer_lacks : Scope → List (List ℕ) → List Lacking → Layer → List Lacking
layer_lacks s l called (Symbol name) = symbol_lacks s l name
layer_lacks s l called (Items fs) = called
layer_lacks s l called _ = []

abbrev pub lacks_to : ℕ → Scope → Lacks
lacks_to zero s l f = []
lacks_to (suc depth) s l f = layer_lacks s l (call_lacks s (lacks_to depth s) l (headed f)) (out-Form f)

-- The names of an expression that stand for nothing, in the order of their places.
unfoldable pub lacks_of : Scope → Form → List Lacking
lacks_of s f = lacks_to deepest s [] f

abbrev pub is_lack : Lack → Lack → Bool
is_lack Undefined Undefined = true
is_lack Unknown Unknown = true
is_lack _ _ = false

abbrev pub names_lacking : Lack → List Lacking → List (List ℕ)
names_lacking lack [] = []
names_lacking lack (x ∷ xs) = if is_lack lack x.0 then x.1 ∷ names_lacking lack xs else names_lacking lack xs

-- The faults of an expression's names by their numbers: each E306 stands ahead of every E405.
abbrev pub name_faults : Scope → Form → List (ℕ × List (List ℕ))
name_faults s f = (306, names_lacking Undefined (lacks_of s f)) ∷ (405, names_lacking Unknown (lacks_of s f)) ∷ []
