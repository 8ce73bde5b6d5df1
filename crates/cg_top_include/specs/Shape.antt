-- What stands in a form.
use Rattle.std.specs.Prelude.{ℕ, Bool, true, false, if◌then◌else◌, List, [], ◌∷◌, Option, Some, None, is_some, codes}
use Rattle.cg_base.specs.declared.Form.{Form}
use Rattle.cg_base.specs.Parts.{◌>>=◌, symbol_of, string_of, natural_of, elements_of, only}
use Rattle.cg_base.specs.Texts.{is_named}

-- The elements of a list of just two.
abbrev pub two : {A : Type 0} → List A → Option (A × A)
two (a ∷ b ∷ []) = Some (a, b)
two _ = None

-- The elements of a list of just three.
abbrev pub three : {A : Type 0} → List A → Option (A × A × A)
three (a ∷ b ∷ c ∷ []) = Some (a, b, c)
three _ = None

-- The elements of a list of just four.
abbrev pub four : {A : Type 0} → List A → Option (A × A × A × A)
four (a ∷ b ∷ c ∷ d ∷ []) = Some (a, b, c, d)
four _ = None

-- The form is the symbol NAME.
abbrev pub is_symbol : List ℕ → Form → Bool
is_symbol name form = is_named name (symbol_of form)

abbrev pub behind : List ℕ → List Form → Option (List Form)
behind name [] = None
behind name (head ∷ forms) = if is_symbol name head then Some forms else None

-- What stands behind NAME in a list `(NAME ..)`.
unfoldable pub behind_name : List ℕ → Form → Option (List Form)
behind_name name form = elements_of form >>= behind name

-- The form X of a list `(NAME X)`.
unfoldable pub one_behind : List ℕ → Form → Option Form
one_behind name form = behind_name name form >>= only

-- The symbol X of a list `(NAME X)`.
unfoldable pub symbol_clause : List ℕ → Form → Option (List ℕ)
symbol_clause name form = one_behind name form >>= symbol_of

-- The number X, from 0, of a list `(NAME X)`.
unfoldable pub number_clause : List ℕ → Form → Option ℕ
number_clause name form = one_behind name form >>= natural_of

-- The string in `(comment "..")`.
unfoldable pub comment_of : Form → Option (List ℕ)
comment_of form = one_behind (codes "comment") form >>= string_of

abbrev pub is_comment : Form → Bool
is_comment form = is_some (comment_of form)

abbrev pub is_nothing : Option (List Form) → Bool
is_nothing (Some []) = true
is_nothing _ = false

-- The form is `(NAME)`, with nothing behind the name.
abbrev pub is_empty_clause : List ℕ → Form → Bool
is_empty_clause name form = is_nothing (behind_name name form)

-- The forms without the first, where that is such.
abbrev pub past : (Form → Bool) → List Form → List Form
past is [] = []
past is (form ∷ forms) = if is form then forms else form ∷ forms

abbrev pub first : List Form → Option (Form × List Form)
first [] = None
first (form ∷ forms) = Some (form, forms)

-- The name that stands first among clauses, and the clauses behind it. Directly behind the name a comment, and then empty
-- attributes, mean nothing.
unfoldable pub named : List Form → Option (List ℕ × List Form)
named clauses = do
  x ← first clauses
  name ← symbol_clause (codes "name") x.0
  Some (name, past (is_empty_clause (codes "attrs")) (past is_comment x.1))
