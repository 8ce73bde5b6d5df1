-- What is wrong in an expression of RTL, and what is left out of the language (docs/LANGUAGE.md, "RTL").
use Rattle.std.specs.Prelude.{ℕ, zero, suc, Bool, true, false, not, ◌&&◌, ◌||◌, ◌==◌, nat_lt, nat_eq, if◌then◌else◌, List, [], ◌∷◌, ◌++◌, length, drop, Option, Some, None, is_some, codes}
use Rattle.std.specs.List.{list_all, flat_map}
use Rattle.cg_base.specs.declared.form.Form.{Form, out-Form}
use Rattle.cg_base.specs.declared.form.Form.TheOpen.{Number, Symbol, Str, Flag, Items}
use Rattle.cg_base.specs.Parts.{◌>>=◌, Layer, Headed, headed, symbol_of, is_symbol, string_of, number_of, elements_of}
use Rattle.cg_base.specs.Refusing.{first}
use Rattle.cg_base.specs.Texts.{same_text, passes, is_named}
use Rattle.cg_rtl.specs.declared.functions.Item.{Item}
use Rattle.cg_rtl.specs.declared.functions.Item.TheVariants as item
use Rattle.cg_rtl.specs.declared.faults.Flaw.{Flaw}
use Rattle.cg_rtl.specs.declared.faults.Flaw.TheVariants.{Wrong, LeftOut}
use Rattle.cg_base.specs.ModeWords.{is_mode, gives_mode}
use Rattle.cg_rtl.specs.Functions.{Shape, shape_of, item_at, allows}

-- What is at fault: a shape is wrong (E304), or something is left out of the language (E307), with the text of its refusal.
abbrev pub Flawed : Type 0
Flawed = Flaw × List ℕ

-- The texts of one kind of fault, in the order of their places.
abbrev pub is_flaw : Flaw → Flaw → Bool
is_flaw Wrong Wrong = true
is_flaw LeftOut LeftOut = true
is_flaw _ _ = false

abbrev pub texts : Flaw → List Flawed → List (List ℕ)
texts flaw [] = []
texts flaw (x ∷ xs) = if is_flaw flaw x.0 then x.1 ∷ texts flaw xs else texts flaw xs

-- The text of a wrong shape is the head of the innermost function that has it or holds it.
abbrev pub wants : Bool → List ℕ → List Flawed
wants holds name = if holds then [] else (Wrong, name) ∷ []

-- the symbol that stands first
abbrev pub first_symbol : List Form → Option (List ℕ)
first_symbol fs = first fs >>= symbol_of

abbrev pub gives_mode_word : Form → Bool
gives_mode_word f = passes gives_mode (symbol_of f)

-- A local is `(MODE NAME)`.
abbrev pub is_local_in : List Form → Bool
is_local_in (mode ∷ name ∷ []) = gives_mode_word mode && is_symbol name
is_local_in _ = false

abbrev pub is_local : Form → Bool
is_local f = passes is_local_in (elements_of f)

-- A value that a `case` names is a number or a symbol. Behind a choice's head stand one or more.
abbrev pub is_value : Form → Bool
is_value f = is_some (number_of f) || is_symbol f

abbrev pub are_values : List Form → Bool
are_values fs = not (length fs == 0) && list_all is_value fs

abbrev pub has_values : List Form → Bool
has_values arm = passes are_values (first arm >>= elements_of)

-- Faults by `within`, which has those of an expression that stands in a function of this name.
abbrev pub Within : Type 0
Within = List ℕ → Form → List Flawed

-- An arm is a list of two elements or more: a test and expressions in a `cond`, values and expressions in a `case`. Only the
-- last may be headed by `else`.
abbrev pub is_else : List Form → Bool
is_else arm = is_named (codes "else") (first_symbol arm)

abbrev pub headed_faults : Within → List ℕ → Bool → List Form → List Flawed
headed_faults within name holds arm = wants holds name ++ flat_map (within name) (drop 1 arm)

abbrev pub may_be_else : Item → Bool
may_be_else item.LastArm = true
may_be_else item.LastChoice = true
may_be_else _ = false

abbrev pub is_choice : Item → Bool
is_choice item.Choice = true
is_choice item.LastChoice = true
is_choice _ = false

abbrev pub arm_faults : Within → List ℕ → Item → List Form → List Flawed
arm_faults within name item arm =
    if nat_lt (length arm) 2 then wants false name
    else if is_else arm then headed_faults within name (may_be_else item) arm
    else if is_choice item then headed_faults within name (has_values arm) arm
    else flat_map (within name) arm

-- what is at fault in the elements of a list; what is no list is of a wrong shape
abbrev pub listed : (List Form → List Flawed) → List ℕ → Option (List Form) → List Flawed
listed faults name None = wants false name
listed faults name (Some fs) = faults fs

-- A form is what an item is that isn't judged further.
abbrev pub is_plain : Item → Form → Bool
is_plain item.Number f = is_some (number_of f)
is_plain item.Name f = is_symbol f
is_plain item.Str f = is_some (string_of f)
is_plain item.Mode f = gives_mode_word f
is_plain item.Locals f = passes (list_all is_local) (elements_of f)
is_plain item.NoLocals f = passes (λ fs. length fs == 0) (elements_of f)
is_plain other f = true

abbrev pub item_faults : Within → List ℕ → Item → Form → List Flawed
item_faults within name item.Expression f = within name f
item_faults within name item.Arm f = listed (arm_faults within name item.Arm) name (elements_of f)
item_faults within name item.LastArm f = listed (arm_faults within name item.LastArm) name (elements_of f)
item_faults within name item.Choice f = listed (arm_faults within name item.Choice) name (elements_of f)
item_faults within name item.LastChoice f = listed (arm_faults within name item.LastChoice) name (elements_of f)
item_faults within name other f = wants (is_plain other f) name

-- those of the items from place k on, of so many
abbrev pub items_faults : Within → List ℕ → Shape → ℕ → ℕ → List Form → List Flawed
items_faults within name shape count k [] = []
items_faults within name shape count k (f ∷ fs) =
    item_faults within name (item_at shape count k) f ++ items_faults within name shape count (suc k) fs

-- A mode may stand behind any function's name.
abbrev pub behind_mode : List Form → List Form
behind_mode fs = if passes is_mode (first_symbol fs) then drop 1 fs else fs

abbrev pub has_mode : List Form → Bool
has_mode fs = passes gives_mode (first_symbol fs)

-- A wrong count, or a mode that is wanted and lacking, comes before what is at fault in the items.
abbrev pub shaped_faults : Within → List ℕ → Shape → Bool → List Form → List Flawed
shaped_faults within name shape has_mode operands =
    wants (allows shape has_mode (length operands)) name ++ items_faults within name shape (length operands) 0 operands

-- A call of another text than `cgen_halt` is left out, whatever else is wrong in it.
abbrev pub calls_another : List ℕ → List Form → Bool
calls_another name operands = same_text name (codes "c-call") && passes (λ text. not (same_text text (codes "cgen_halt"))) (first operands >>= string_of)

-- A function that isn't listed is left out, and nothing is judged in it.
abbrev pub known_faults : Within → List ℕ → List Form → Option Shape → List Flawed
known_faults within name behind None = (LeftOut, name) ∷ []
known_faults within name behind (Some shape) =
    if calls_another name (behind_mode behind) then (LeftOut, name) ∷ []
    else shaped_faults within name shape (has_mode behind) (behind_mode behind)

-- A list that isn't headed by a symbol is no expression.
abbrev pub call_faults : Within → List ℕ → Option Headed → List Flawed
call_faults within holder None = wants false holder
call_faults within holder (Some x) = known_faults within x.0 x.1 (shape_of x.0)

-- Numbers and symbols are expressions, and lists are by their functions. Strings and flags are none.
abbrev pub layer_faults : List Flawed → List ℕ → Layer → List Flawed
layer_faults called holder (Number n) = []
layer_faults called holder (Symbol s) = []
layer_faults called holder (Str s) = wants false holder
layer_faults called holder (Flag b) = wants false holder
layer_faults called holder (Items fs) = called

-- What is at fault in an expression that a function of this name holds, so many lists inwards.
abbrev pub faults_to : ℕ → Within
faults_to zero holder f = []
faults_to (suc k) holder f = layer_faults (call_faults (faults_to k) holder (headed f)) holder (out-Form f)

-- Expressions are judged so many lists inwards. No form in a memory of 2^64 bytes has more.
abbrev pub deepest : ℕ
deepest = 18446744073709551615

-- What is at fault in an expression that no function holds: the texts of E304, and those of E307.
unfoldable pub faults_in : Form → List Flawed
faults_in f = faults_to deepest (codes "rtl") f

abbrev pub wrong_in : Form → List (List ℕ)
wrong_in f = texts Wrong (faults_in f)

abbrev pub left_out_in : Form → List (List ℕ)
left_out_in f = texts LeftOut (faults_in f)

-- The faults of an expression by their numbers.
abbrev pub rtl_faults : Form → List (ℕ × List (List ℕ))
rtl_faults f = (304, wrong_in f) ∷ (307, left_out_in f) ∷ []
