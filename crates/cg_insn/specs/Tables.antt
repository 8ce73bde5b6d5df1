-- Which clauses the forms of instructions have.
use Rattle.std.specs.Prelude.{ℕ, List, [], ◌∷◌, Option, codes}
use Rattle.cg_attrs.specs.declared.content.Content.TheVariants as shared
use Rattle.cg_attrs.specs.Clauses.{Role, Row, Wanted, Optional, SpellingOf}
use Rattle.cg_attrs.specs.Judging.{Named, kind_among, Table, Clauses}
use Rattle.cg_insn.specs.declared.content.InsnContent.{InsnContent}
use Rattle.cg_insn.specs.declared.content.InsnContent.TheVariants as content
use Rattle.cg_insn.specs.declared.table.InsnKind.{InsnKind}
use Rattle.cg_insn.specs.declared.table.InsnKind.TheVariants as kind

-- the symbols that head the forms
abbrev pub heads : List (Named InsnKind)
heads = (codes "define-insn", kind.Instruction) ∷ (codes "define-macro-insn", kind.Macro) ∷ []

-- The form that a symbol heads.
abbrev pub kind_named : List ℕ → Option InsnKind
kind_named name = kind_among name heads

-- a row of a table
abbrev pub row : List ℕ → Role → InsnContent → Row InsnContent
row name role content = record { name = name; role = role; content = content }

-- The clauses of a form, the wanted ones in the order in which they are missed.
abbrev pub rows_of : InsnKind → List (Row InsnContent)
rows_of kind.Instruction =
    row (codes "name") Wanted (content.Shared shared.Symbol) ∷
    row (codes "syntax") Wanted content.Syntax ∷
    row (codes "format") Wanted content.Format ∷
    row (codes "semantics") Wanted content.Expression ∷
    row (codes "timing") Optional content.Timing ∷
    row (codes "ifield-assertion") Optional content.Expression ∷ []
rows_of kind.Macro =
    row (codes "name") Wanted (content.Shared shared.Symbol) ∷
    row (codes "syntax") Wanted content.Syntax ∷
    row (codes "expansions") Wanted content.Expansion ∷
    row (codes "expansion") (SpellingOf (codes "expansions")) content.Expansion ∷ []

-- What may stand behind the head of a form.
abbrev pub table_of : InsnKind → Table InsnContent
table_of k = Clauses (rows_of k)
