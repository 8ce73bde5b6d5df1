-- The clauses of a form, as they stand.
use Rattle.std.specs.Prelude.{ℕ, List, [], ◌∷◌, Option, Some, None, codes}
use Rattle.std.specs.Option.{unwrap_or}
use Rattle.cg_base.specs.declared.form.Form.{Form}
use Rattle.cg_base.specs.Parts.{Headed, headed, elements_of}
use Rattle.cg_attrs.specs.Clauses.{Clause, clauses}
use Rattle.cg_desc_elements.specs.declared.kind.Kind.{Kind}
use Rattle.cg_desc_elements.specs.declared.kind.Kind.TheVariants.{InsnEnum}

-- An argument that stands by its place counts as a clause of its own name, which knows no other elements.
abbrev pub argument : List ℕ → List Form → Clause
argument name content = record { name = name; content = content; elements = [] }

-- The arguments are name, comment, attrs, prefix, field and values; `attrs` and `values` are lists.
abbrev pub naming : Form → Form → Form → Form → List Clause
naming name attrs field values =
    argument (codes "name") (name ∷ []) ∷ argument (codes "attrs") (unwrap_or (elements_of attrs) []) ∷
    argument (codes "field") (field ∷ []) ∷ argument (codes "values") (unwrap_or (elements_of values) []) ∷ []

abbrev pub arguments : List Form → List Clause
arguments (name ∷ comment ∷ attrs ∷ prefix ∷ field ∷ values ∷ []) = naming name attrs field values
arguments _ = []

-- The clauses behind the head of a form of this kind, from left to right.
abbrev pub clauses_behind : Kind → List Form → List Clause
clauses_behind InsnEnum fs = arguments fs
clauses_behind k fs = clauses fs

abbrev pub clauses_in : Kind → Option Headed → List Clause
clauses_in k None = []
clauses_in k (Some x) = clauses_behind k x.1

abbrev pub clauses_of : Kind → Form → List Clause
clauses_of k f = clauses_in k (headed f)
