-- Which clauses the forms of operands have.
use Rattle.std.specs.Prelude.{ℕ, List, [], ◌∷◌, Option, codes}
use Rattle.cg_attrs.specs.declared.content.Content.TheVariants as shared
use Rattle.cg_attrs.specs.Clauses.{Role, Row, Wanted, Optional, Plain, LeftOut}
use Rattle.cg_attrs.specs.Judging.{Named, kind_among, Table, Clauses}
use Rattle.cg_operand.specs.declared.content.OperandContent.{OperandContent}
use Rattle.cg_operand.specs.declared.content.OperandContent.TheVariants as content
use Rattle.cg_operand.specs.declared.table.OperandKind.{OperandKind}
use Rattle.cg_operand.specs.declared.table.OperandKind.TheVariants as kind

-- the symbols that head the forms
abbrev pub heads : List (Named OperandKind)
heads = (codes "define-operand", kind.Plain) ∷ (codes "define-derived-operand", kind.Derived) ∷ (codes "define-anyof-operand", kind.Anyof) ∷ []

-- The form that a symbol heads.
abbrev pub kind_named : List ℕ → Option OperandKind
kind_named name = kind_among name heads

-- a row of a table
abbrev pub row : List ℕ → Role → OperandContent → Row OperandContent
row name role content = record { name = name; role = role; content = content }

-- what other forms hold too
abbrev pub symbol : OperandContent
symbol = content.Shared shared.Symbol

abbrev pub anything : OperandContent
anything = content.Shared shared.Anything

-- The clauses of a form, the wanted ones in the order in which they are missed.
abbrev pub rows_of : OperandKind → List (Row OperandContent)
rows_of kind.Plain =
    row (codes "name") Wanted symbol ∷
    row (codes "type") Wanted symbol ∷
    row (codes "index") Wanted content.Index ∷
    row (codes "mode") Plain anything ∷
    row (codes "handlers") LeftOut anything ∷
    row (codes "getter") LeftOut anything ∷
    row (codes "setter") LeftOut anything ∷ []
rows_of kind.Derived =
    row (codes "name") Wanted symbol ∷
    row (codes "args") Wanted content.Names ∷
    row (codes "syntax") Wanted content.Syntax ∷
    row (codes "base-ifield") Wanted symbol ∷
    row (codes "encoding") Wanted content.Encoding ∷
    row (codes "getter") Wanted content.Expression ∷
    row (codes "setter") Wanted content.Expression ∷
    row (codes "ifield-assertion") Optional content.Expression ∷
    row (codes "mode") Plain anything ∷ []
rows_of kind.Anyof =
    row (codes "name") Wanted symbol ∷
    row (codes "choices") Wanted (content.Shared shared.Symbols) ∷
    row (codes "mode") Plain anything ∷ []

-- What may stand behind the head of a form.
abbrev pub table_of : OperandKind → Table OperandContent
table_of k = Clauses (rows_of k)
