-- A clause that holds one expression.
use Rattle.std.specs.Prelude.{ℕ, List, [], ◌++◌, Option, Some, None, is_some}
use Rattle.cg_base.specs.declared.form.Form.{Form}
use Rattle.cg_base.specs.Parts.{only}
use Rattle.cg_attrs.specs.Clauses.{Clause}
use Rattle.cg_attrs.specs.Contents.{misfit}
use Rattle.cg_rtl.specs.Shapes.{wrong_in, left_out_in}

-- what is at fault inside an expression
abbrev pub inside : (Form → List (List ℕ)) → Option Form → List (List ℕ)
inside texts None = []
inside texts (Some e) = texts e

-- E304: the clause's name where no expression stands there alone, and what is wrong inside it.
abbrev pub wrong_expression : Clause → List (List ℕ)
wrong_expression clause = misfit (is_some (only clause.content)) clause.name ++ inside wrong_in (only clause.content)

-- E307: what is left out inside it.
abbrev pub left_out_expression : Clause → List (List ℕ)
left_out_expression clause = inside left_out_in (only clause.content)
