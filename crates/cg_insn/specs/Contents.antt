-- What may stand behind the names of the clauses of instructions.
use Rattle.std.specs.Prelude.{ℕ, Bool, false, ◌&&◌, ◌||◌, if◌then◌else◌, List, [], ◌∷◌, Option, is_some, codes}
use Rattle.std.specs.List.{list_all}
use Rattle.cg_base.specs.declared.form.Form.{Form}
use Rattle.cg_base.specs.Parts.{◌>>=◌, Headed, headed, is_symbol, string_of, number_of, elements_of, only}
use Rattle.cg_base.specs.Texts.{same_text, is_among, passes}
use Rattle.cg_attrs.specs.Clauses.{Clause}
use Rattle.cg_attrs.specs.Contents.{misfit, is_small}
use Rattle.cg_attrs.specs.Contents as shared
use Rattle.cg_insn.specs.declared.content.InsnContent.{InsnContent}
use Rattle.cg_insn.specs.declared.content.InsnContent.TheVariants as content
use Rattle.cg_insn.specs.Syntax.{is_syntax}
use Rattle.cg_insn.specs.Parts.{only_headed, is_format}
use Rattle.cg_insn.specs.Expressions.{wrong_expression, left_out_expression}

-- What stands behind `syntax`: one string that is a syntax.
unfoldable pub only_string : List Form → Option (List ℕ)
only_string fs = only fs >>= string_of

abbrev pub fits_syntax : List Form → Bool
fits_syntax fs = passes is_syntax (only_string fs)

-- Behind a unit's name stand `(cycles n)`, n from 0 to 65,535, and `(in ..)` and `(out ..)` with anything in them.
abbrev pub is_note_in : Headed → Bool
is_note_in x =
    if same_text (codes "cycles") x.0 then passes is_small (only x.1)
    else is_among (codes "in" ∷ codes "out" ∷ []) x.0

abbrev pub is_note : Form → Bool
is_note f = passes is_note_in (headed f)

-- `(unit name note ..)`
abbrev pub are_notes : List Form → Bool
are_notes [] = false
are_notes (name ∷ notes) = is_symbol name && list_all is_note notes

abbrev pub is_unit_in : Headed → Bool
is_unit_in x = same_text (codes "unit") x.0 && are_notes x.1

abbrev pub is_unit : Form → Bool
is_unit f = passes is_unit_in (headed f)

-- What stands behind `timing`: for models, as `(model (unit name ..) ..)`.
abbrev pub is_model : Form → Bool
is_model f = passes (λ x. list_all is_unit x.1) (headed f)

abbrev pub is_timing : List Form → Bool
is_timing fs = list_all is_model fs

-- An item of what is emitted is a symbol or `(operand x)`, x a number or a symbol.
abbrev pub is_given_in : List Form → Bool
is_given_in (operand ∷ x ∷ []) = is_symbol operand && (is_symbol x || is_some (number_of x))
is_given_in _ = false

abbrev pub is_item : Form → Bool
is_item f = is_symbol f || passes is_given_in (elements_of f)

-- What stands behind `expansions`: `(emit insn item ..)`.
abbrev pub are_emitted : List Form → Bool
are_emitted [] = false
are_emitted (insn ∷ items) = is_symbol insn && list_all is_item items

abbrev pub is_emit : Headed → Bool
is_emit x = same_text (codes "emit") x.0 && are_emitted x.1

abbrev pub is_expansion : List Form → Bool
is_expansion fs = passes is_emit (only_headed fs)

-- The texts of E304 of a clause.
abbrev pub wrong : InsnContent → Clause → List (List ℕ)
wrong (content.Shared c) clause = shared.wrong c clause
wrong content.Syntax clause = misfit (fits_syntax clause.content) clause.name
wrong content.Format clause = misfit (is_format clause.content) clause.name
wrong content.Timing clause = misfit (is_timing clause.content) clause.name
wrong content.Expansion clause = misfit (is_expansion clause.content) clause.name
wrong content.Expression clause = wrong_expression clause

-- The texts of E307 of a clause: what is left out inside its expression.
abbrev pub left_out : InsnContent → Clause → List (List ℕ)
left_out (content.Shared c) clause = shared.left_out c clause
left_out content.Expression clause = left_out_expression clause
left_out _ clause = []
