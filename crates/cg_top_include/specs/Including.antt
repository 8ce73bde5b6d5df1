-- Where a description has an include.
use Rattle.std.specs.Prelude.{ℕ, Bool, ◌&&◌, if◌then◌else◌, List, [], ◌∷◌, Option, Some, None, codes}
use Rattle.cg_base.specs.declared.Form.{Form}
use Rattle.cg_base.specs.declared.form.Top.{Top}
use Rattle.cg_base.specs.Parts.{◌>>=◌, string_of}
use Rattle.cg_base.specs.Texts.{same_text}
use Rattle.cg_top_include.specs.Shape.{one_behind}
use Rattle.cg_top_include.specs.declared.including.Include.{Include}

-- The file that `(include "NAME")` asks for.
unfoldable pub included : Form → Option (List ℕ)
included form = one_behind (codes "include") form >>= string_of

-- This name asks for the short forms, and for no file.
abbrev pub is_short : List ℕ → Bool
is_short name = same_text name (codes "simplify.inc")

-- Forms up to an include: those before it, the include if there is one, and those behind it.
pub record Parted : Type 0 where
  pub before : List Top
  pub include : Option Include
  pub behind : List Top

abbrev pub include_at : Top → List ℕ → Include
include_at top name = record { name = name; file = top.file; line = top.line }

abbrev pub put_before : Top → Parted → Parted
put_before top parts = record { before = top ∷ parts.before; include = parts.include; behind = parts.behind }

-- What the first form makes of the parts of those behind it: where the short forms stand already, a further include of them
-- stands for nothing.
abbrev pub parted_at : Bool → Top → List Top → Option (List ℕ) → Parted → Parted
parted_at short top tops None parts = put_before top parts
parted_at short top tops (Some name) parts =
    if short && is_short name then parts else record { before = []; include = Some (include_at top name); behind = tops }

-- The forms up to their first include.
abbrev pub parted : Bool → List Top → Parted
parted short [] = record { before = []; include = None; behind = [] }
parted short (top ∷ tops) = parted_at short top tops (included top.form) (parted short tops)
