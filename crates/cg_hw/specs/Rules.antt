-- The rules of hardware: `get`, which is `(index) expr`, and `set`, which is `(index newval) expr`. `index` stands exactly where
-- the register has a written count.
use Rattle.std.specs.Prelude.{ℕ, Bool, true, false, ◌&&◌, if◌then◌else◌, List, [], ◌∷◌, ◌++◌, Option, Some, None, codes}
use Rattle.cg_base.specs.declared.form.Form.{Form}
use Rattle.cg_base.specs.Parts.{◌>>=◌, symbol_of, elements_of}
use Rattle.cg_base.specs.Texts.{passes, is_named}
use Rattle.cg_attrs.specs.Clauses.{Clause}
use Rattle.cg_attrs.specs.Contents.{misfit}
use Rattle.cg_rtl.specs.Shapes.{wrong_in, left_out_in}
use Rattle.cg_hw.specs.declared.kind.Cells.{Cells}
use Rattle.cg_hw.specs.declared.kind.Cells.TheVariants.{Single, Counted}
use Rattle.cg_hw.specs.declared.rule.Formals.{Formals}
use Rattle.cg_hw.specs.declared.rule.Formals.TheVariants.{Bare, Indexed}
use Rattle.cg_hw.specs.Types.{cells_at}

-- the form is the symbol of this name
abbrev pub is_name : List ℕ → Form → Bool
is_name name f = is_named name (symbol_of f)

-- The formals of a rule for reading, and of one for writing.
abbrev pub get_formals : List Form → Option Formals
get_formals [] = Some Bare
get_formals (i ∷ []) = if is_name (codes "index") i then Some Indexed else None
get_formals _ = None

abbrev pub set_formals : List Form → Option Formals
set_formals (v ∷ []) = if is_name (codes "newval") v then Some Bare else None
set_formals (i ∷ v ∷ []) = if is_name (codes "index") i && is_name (codes "newval") v then Some Indexed else None
set_formals _ = None

-- of the two forms of a rule: the elements of the first, and the second
abbrev pub first_list : List Form → Option (List Form)
first_list (fs ∷ e ∷ []) = elements_of fs
first_list _ = None

abbrev pub expression : List Form → Option Form
expression (fs ∷ e ∷ []) = Some e
expression _ = None

-- A rule stands on registers alone, and has `index` where they have a count. Where the type isn't of its kind, nothing is said.
abbrev pub agree : Cells → Formals → Bool
agree Single Bare = true
agree Counted Indexed = true
agree _ _ = false

abbrev pub agree_in : Option Cells → Formals → Bool
agree_in None formals = true
agree_in (Some cells) formals = agree cells formals

abbrev pub is_rule : (List Form → Option Formals) → Clause → Bool
is_rule formals clause = passes (agree_in (cells_at clause.elements)) (first_list clause.content >>= formals)

-- what is at fault inside an expression
abbrev pub inside : (Form → List (List ℕ)) → Option Form → List (List ℕ)
inside texts None = []
inside texts (Some e) = texts e

-- E304 of a rule: its name where it isn't of its kind, and what is wrong inside its expression.
abbrev pub wrong_rule : (List Form → Option Formals) → Clause → List (List ℕ)
wrong_rule formals clause = misfit (is_rule formals clause) clause.name ++ inside wrong_in (expression clause.content)

-- E307 of a rule: what is left out inside its expression.
abbrev pub left_out_rule : Clause → List (List ℕ)
left_out_rule clause = inside left_out_in (expression clause.content)
