-- What stands in a form.
use Rattle.std.specs.Prelude.{ℕ, ℤ, pos, Bool, false, List, [], ◌∷◌, drop, Option, Some, None, is_some, find}
use Rattle.cg_base.specs.declared.form.Form.{Form, out-Form}
use Rattle.cg_base.specs.declared.form.Form.TheOpen.{Form-F, Number, Symbol, Str, Flag, Items}
use Rattle.cg_base.specs.Texts.{same_text}

-- What follows where there is a value.
infixl 10 ◌>>=◌
abbrev pub ◌>>=◌ : {A B : Type 0} → Option A → (A → Option B) → Option B
None >>= f = None
(Some x) >>= f = f x

-- One level of a form: its elements are forms.
abbrev pub Layer : Type 0
Layer = Form-F Form

-- The text of a symbol.
abbrev pub symbol_in : Layer → Option (List ℕ)
symbol_in (Symbol s) = Some s
symbol_in _ = None

abbrev pub symbol_of : Form → Option (List ℕ)
symbol_of f = symbol_in (out-Form f)

abbrev pub is_symbol : Form → Bool
is_symbol f = is_some (symbol_of f)

-- The text of a string.
abbrev pub string_in : Layer → Option (List ℕ)
string_in (Str s) = Some s
string_in _ = None

abbrev pub string_of : Form → Option (List ℕ)
string_of f = string_in (out-Form f)

-- The text of a word: a symbol or a string.
abbrev pub word_in : Layer → Option (List ℕ)
word_in (Symbol s) = Some s
word_in (Str s) = Some s
word_in _ = None

abbrev pub word_of : Form → Option (List ℕ)
word_of f = word_in (out-Form f)

-- The value of a number.
abbrev pub number_in : Layer → Option ℤ
number_in (Number n) = Some n
number_in _ = None

abbrev pub number_of : Form → Option ℤ
number_of f = number_in (out-Form f)

-- The value of a number from 0.
abbrev pub natural_in : Layer → Option ℕ
natural_in (Number (pos n)) = Some n
natural_in _ = None

abbrev pub natural_of : Form → Option ℕ
natural_of f = natural_in (out-Form f)

-- The value of a flag.
abbrev pub flag_in : Layer → Option Bool
flag_in (Flag b) = Some b
flag_in _ = None

abbrev pub flag_of : Form → Option Bool
flag_of f = flag_in (out-Form f)

-- The elements of a list.
abbrev pub elements_in : Layer → Option (List Form)
elements_in (Items fs) = Some fs
elements_in _ = None

abbrev pub elements_of : Form → Option (List Form)
elements_of f = elements_in (out-Form f)

-- A list headed by a symbol: that symbol, and the elements behind it.
abbrev pub Headed : Type 0
Headed = List ℕ × List Form

abbrev pub headed_by : Option (List ℕ) → List Form → Option Headed
headed_by None fs = None
headed_by (Some s) fs = Some (s, fs)

abbrev pub headed_in : List Form → Option Headed
headed_in [] = None
headed_in (f ∷ fs) = headed_by (symbol_of f) fs

unfoldable pub headed : Form → Option Headed
headed f = elements_of f >>= headed_in

-- The form is a list headed by this symbol.
abbrev pub heads : List ℕ → Option Headed → Bool
heads name None = false
heads name (Some x) = same_text x.0 name

abbrev pub is_headed : List ℕ → Form → Bool
is_headed name f = heads name (headed f)

-- The first clause of this name: the first element behind the head of a list that is a list headed by this symbol.
abbrev pub clause_in : List ℕ → List Form → Option Form
clause_in name fs = find (is_headed name) (drop 1 fs)

unfoldable pub clause_of : List ℕ → Form → Option Form
clause_of name f = elements_of f >>= clause_in name

-- The one element of a list, and what it is.
abbrev pub only : {A : Type 0} → List A → Option A
only (x ∷ []) = Some x
only _ = None

unfoldable pub only_symbol : List Form → Option (List ℕ)
only_symbol fs = only fs >>= symbol_of

unfoldable pub only_word : List Form → Option (List ℕ)
only_word fs = only fs >>= word_of

unfoldable pub only_number : List Form → Option ℤ
only_number fs = only fs >>= number_of

unfoldable pub only_natural : List Form → Option ℕ
only_natural fs = only fs >>= natural_of

unfoldable pub only_flag : List Form → Option Bool
only_flag fs = only fs >>= flag_of
