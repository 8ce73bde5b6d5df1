-- What may stand behind the names of the clauses of operands.
use Rattle.std.specs.Prelude.{ℕ, Bool, ◌||◌, List, [], is_some}
use Rattle.std.specs.List.{list_all}
use Rattle.cg_base.specs.declared.form.Form.{Form}
use Rattle.cg_base.specs.Parts.{only, is_symbol, number_of}
use Rattle.cg_base.specs.Texts.{passes}
use Rattle.cg_attrs.specs.Clauses.{Clause}
use Rattle.cg_attrs.specs.Contents.{misfit, only_elements}
use Rattle.cg_attrs.specs.Contents as shared
use Rattle.cg_insn.specs.Contents.{fits_syntax}
use Rattle.cg_insn.specs.Parts.{is_encoding}
use Rattle.cg_insn.specs.Expressions.{wrong_expression, left_out_expression}
use Rattle.cg_operand.specs.declared.content.OperandContent.{OperandContent}
use Rattle.cg_operand.specs.declared.content.OperandContent.TheVariants as content

-- An index is a field's name or a number.
abbrev pub is_index : Form → Bool
is_index f = is_symbol f || is_some (number_of f)

abbrev pub fits_index : List Form → Bool
fits_index fs = passes is_index (only fs)

-- Names that stand in a list of their own.
abbrev pub are_names : List Form → Bool
are_names fs = passes (list_all is_symbol) (only_elements fs)

-- The texts of E304 of a clause.
abbrev pub wrong : OperandContent → Clause → List (List ℕ)
wrong (content.Shared c) clause = shared.wrong c clause
wrong content.Index clause = misfit (fits_index clause.content) clause.name
wrong content.Names clause = misfit (are_names clause.content) clause.name
wrong content.Syntax clause = misfit (fits_syntax clause.content) clause.name
wrong content.Encoding clause = misfit (is_encoding clause.content) clause.name
wrong content.Expression clause = wrong_expression clause

-- The texts of E307 of a clause.
abbrev pub left_out : OperandContent → Clause → List (List ℕ)
left_out (content.Shared c) clause = shared.left_out c clause
left_out content.Expression clause = left_out_expression clause
left_out _ clause = []
