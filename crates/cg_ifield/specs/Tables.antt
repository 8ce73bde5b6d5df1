-- Which clauses the forms of fields have.
use Rattle.std.specs.Prelude.{ℕ, List, [], ◌∷◌, Option, codes}
use Rattle.cg_attrs.specs.declared.content.Content.TheVariants as shared
use Rattle.cg_attrs.specs.Clauses.{Role, Row, Wanted, WantedBeside, Optional, LeftOut}
use Rattle.cg_attrs.specs.Judging.{Named, kind_among, Table, Clauses}
use Rattle.cg_ifield.specs.declared.content.FieldContent.{FieldContent}
use Rattle.cg_ifield.specs.declared.content.FieldContent.TheVariants as content
use Rattle.cg_ifield.specs.declared.table.FieldKind.{FieldKind}
use Rattle.cg_ifield.specs.declared.table.FieldKind.TheVariants as kind

-- the symbols that head the forms
abbrev pub heads : List (Named FieldKind)
heads = (codes "define-ifield", kind.Plain) ∷ (codes "define-multi-ifield", kind.Multi) ∷ []

-- The form that a symbol heads.
abbrev pub kind_named : List ℕ → Option FieldKind
kind_named name = kind_among name heads

-- a row of a table
abbrev pub row : List ℕ → Role → FieldContent → Row FieldContent
row name role content = record { name = name; role = role; content = content }

-- The clauses of a form, the wanted ones in the order in which they are missed. Where one of `word-offset` and `word-length`
-- stands, the other is wanted.
abbrev pub rows_of : FieldKind → List (Row FieldContent)
rows_of kind.Plain =
    row (codes "name") Wanted (content.Shared shared.Symbol) ∷
    row (codes "start") Wanted (content.Shared shared.Small) ∷
    row (codes "length") Wanted content.Length ∷
    row (codes "mode") Optional content.Mode ∷
    row (codes "word-offset") (WantedBeside (codes "word-length")) content.WordOffset ∷
    row (codes "word-length") (WantedBeside (codes "word-offset")) (content.Shared shared.BitSize) ∷
    row (codes "encode") Optional content.Rule ∷
    row (codes "decode") Optional content.Rule ∷
    row (codes "follows") LeftOut (content.Shared shared.Anything) ∷ []
rows_of kind.Multi =
    row (codes "name") Wanted (content.Shared shared.Symbol) ∷
    row (codes "subfields") Wanted (content.Shared shared.Symbols) ∷
    row (codes "insert") Wanted content.Insert ∷
    row (codes "extract") Wanted content.Extract ∷
    row (codes "mode") Optional content.Mode ∷
    row (codes "encode") LeftOut (content.Shared shared.Anything) ∷
    row (codes "decode") LeftOut (content.Shared shared.Anything) ∷ []

-- What may stand behind the head of a form.
abbrev pub table_of : FieldKind → Table FieldContent
table_of k = Clauses (rows_of k)
