-- What `insert` and `extract` of a multi field are: one `(set (ifield f) e)`, or several in `(sequence () (set (ifield f) e) ..)`.
use Rattle.std.specs.Prelude.{ℕ, Bool, true, not, ◌&&◌, ◌==◌, if◌then◌else◌, List, [], ◌∷◌, ◌++◌, length, Option, Some, None, is_some, codes}
use Rattle.std.specs.List.{list_all, list_any, count_by, flat_map}
use Rattle.cg_base.specs.declared.form.Form.{Form}
use Rattle.cg_base.specs.Parts.{◌>>=◌, Headed, headed, symbol_of, is_symbol, elements_of, only, only_symbol}
use Rattle.cg_base.specs.Texts.{same_text, passes, is_named}
use Rattle.cg_attrs.specs.Clauses.{Clause, content_at}
use Rattle.cg_attrs.specs.Contents.{misfit}
use Rattle.cg_rtl.specs.Shapes.{wrong_in, left_out_in}

-- the elements behind this head
abbrev pub behind : List ℕ → Headed → Option (List Form)
behind name x = if same_text x.0 name then Some x.1 else None

unfoldable pub elements_behind : List ℕ → Form → Option (List Form)
elements_behind name f = headed f >>= behind name

-- the field of `(ifield f)`
unfoldable pub field_of : Form → Option (List ℕ)
field_of f = elements_behind (codes "ifield") f >>= only_symbol

-- `(set (ifield f) e)`: the field that is set, and the expression
unfoldable pub set_in : List Form → Option (List ℕ × Form)
set_in (place ∷ e ∷ []) = field_of place >>= (λ field. Some (field, e))
set_in _ = None

unfoldable pub set_of : Form → Option (List ℕ × Form)
set_of f = elements_behind (codes "set") f >>= set_in

-- the forms behind an empty list of locals, one at least
abbrev pub is_empty : Form → Bool
is_empty f = passes (λ fs. length fs == 0) (elements_of f)

abbrev pub steps_in : List Form → Option (List Form)
steps_in [] = None
steps_in (locals ∷ fs) = if is_empty locals && not (length fs == 0) then Some fs else None

-- the forms of a sequence, or the one form
abbrev pub steps_by : Form → Option (List Form) → Option (List Form)
steps_by f None = Some (f ∷ [])
steps_by f (Some fs) = steps_in fs

abbrev pub steps : Form → Option (List Form)
steps f = steps_by f (elements_behind (codes "sequence") f)

-- The sets that stand behind a clause's name.
abbrev pub is_set : Form → Bool
is_set f = is_some (set_of f)

abbrev pub all_sets : List Form → Option (List Form)
all_sets fs = if list_all is_set fs then Some fs else None

unfoldable pub sets_of : List Form → Option (List Form)
sets_of fs = only fs >>= steps >>= all_sets

-- the form sets the field of this name
abbrev pub sets_field : List ℕ → Form → Bool
sets_field name f = passes (λ x. same_text x.0 name) (set_of f)

-- one of the sets alone sets this field
abbrev pub is_set_once : List Form → Form → Bool
is_set_once sets field = passes (λ name. count_by (sets_field name) sets == 1) (symbol_of field)

-- the form sets one of these fields
abbrev pub sets_one_of : List Form → Form → Bool
sets_one_of fields f = passes (λ x. list_any (λ field. is_named x.0 (symbol_of field)) fields) (set_of f)

-- Each of these fields is set once, and no other is.
abbrev pub set_just : List Form → List Form → Bool
set_just fields sets = list_all (is_set_once sets) fields && list_all (sets_one_of fields) sets

-- where the fields aren't known, nothing is said
abbrev pub set_just_in : Option (List Form) → List Form → Bool
set_just_in None sets = true
set_just_in (Some fields) sets = set_just fields sets

-- The fields that `insert` sets are the subfields, where that clause is of its kind.
abbrev pub all_symbols : List Form → Option (List Form)
all_symbols fs = if list_all is_symbol fs then Some fs else None

unfoldable pub subfields_at : List Form → Option (List Form)
subfields_at elements = content_at (codes "subfields") elements >>= all_symbols

-- The field that `extract` sets is the multi field itself, where its name is one.
abbrev pub one_symbol : List Form → Option (List Form)
one_symbol fs = if is_some (only_symbol fs) then Some fs else None

unfoldable pub itself_at : List Form → Option (List Form)
itself_at elements = content_at (codes "name") elements >>= one_symbol

-- what is at fault inside the expressions of sets
abbrev pub inside_one : (Form → List (List ℕ)) → Option (List ℕ × Form) → List (List ℕ)
inside_one texts None = []
inside_one texts (Some x) = texts x.1

abbrev pub inside : (Form → List (List ℕ)) → Option (List Form) → List (List ℕ)
inside texts None = []
inside texts (Some sets) = flat_map (λ f. inside_one texts (set_of f)) sets

-- E304 of a clause that sets these fields: its name where it isn't of its kind, and what is wrong inside its expressions.
abbrev pub wrong_sets : (List Form → Option (List Form)) → Clause → List (List ℕ)
wrong_sets fields clause =
    misfit (passes (set_just_in (fields clause.elements)) (sets_of clause.content)) clause.name ++ inside wrong_in (sets_of clause.content)

-- E307 of such a clause: what is left out inside its expressions.
abbrev pub left_out_sets : Clause → List (List ℕ)
left_out_sets clause = inside left_out_in (sets_of clause.content)
