-- What may stand behind the names of the clauses of fields.
use Rattle.std.specs.Prelude.{ℕ, Bool, false, ◌&&◌, ◌||◌, ◌==◌, ◌%◌, nat_le, List, [], ◌∷◌, ◌++◌, Option, Some, None, is_some, codes}
use Rattle.cg_base.specs.declared.form.Form.{Form}
use Rattle.cg_base.specs.Parts.{◌>>=◌, symbol_of, elements_of, only_symbol, only_number, only_natural}
use Rattle.cg_base.specs.Texts.{same_text, passes, is_named}
use Rattle.cg_attrs.specs.Clauses.{Clause}
use Rattle.cg_attrs.specs.Contents.{misfit, only_elements}
use Rattle.cg_base.specs.ModeWords.{is_value_mode}
use Rattle.cg_attrs.specs.Contents as shared
use Rattle.cg_rtl.specs.Shapes.{wrong_in, left_out_in}
use Rattle.cg_ifield.specs.declared.content.FieldContent.{FieldContent}
use Rattle.cg_ifield.specs.declared.content.FieldContent.TheVariants as content
use Rattle.cg_ifield.specs.Sets.{subfields_at, itself_at, wrong_sets, left_out_sets}

-- A mode that a field may have. `DFLT` is as no mode written.
abbrev pub is_field_mode : List ℕ → Bool
is_field_mode text = is_value_mode text || same_text (codes "DFLT") text

-- An offset of a word: whole bytes.
abbrev pub is_word_offset : ℕ → Bool
is_word_offset n = nat_le n 65535 && n % 8 == 0

-- What stands behind a clause's name, other than a rule, is of its kind.
abbrev pub is_length : List Form → Bool
is_length fs = is_some (only_number fs)

abbrev pub fits_mode : List Form → Bool
fits_mode fs = passes is_field_mode (only_symbol fs)

abbrev pub fits_word_offset : List Form → Bool
fits_word_offset fs = passes is_word_offset (only_natural fs)

-- the form is `(value pc)`
abbrev pub are_formals : List Form → Bool
are_formals (value ∷ pc ∷ []) = is_named (codes "value") (symbol_of value) && is_named (codes "pc") (symbol_of pc)
are_formals _ = false

-- `((value pc) expr)`
abbrev pub is_rule_in : List Form → Bool
is_rule_in (formals ∷ e ∷ []) = passes are_formals (elements_of formals)
is_rule_in _ = false

abbrev pub is_rule : List Form → Bool
is_rule fs = passes is_rule_in (only_elements fs)

-- the second of two forms in a list of their own, whatever the first is
abbrev pub second : List Form → Option Form
second (formals ∷ e ∷ []) = Some e
second _ = None

unfoldable pub expression : List Form → Option Form
expression fs = only_elements fs >>= second

-- what is at fault inside an expression
abbrev pub inside : (Form → List (List ℕ)) → Option Form → List (List ℕ)
inside texts None = []
inside texts (Some e) = texts e

-- E304 of a rule: its name where it isn't of its kind, and what is wrong inside its expression.
abbrev pub wrong_rule : Clause → List (List ℕ)
wrong_rule clause = misfit (is_rule clause.content) clause.name ++ inside wrong_in (expression clause.content)

-- The texts of E304 of a clause.
abbrev pub wrong : FieldContent → Clause → List (List ℕ)
wrong (content.Shared c) clause = shared.wrong c clause
wrong content.Length clause = misfit (is_length clause.content) clause.name
wrong content.Mode clause = misfit (fits_mode clause.content) clause.name
wrong content.WordOffset clause = misfit (fits_word_offset clause.content) clause.name
wrong content.Rule clause = wrong_rule clause
wrong content.Insert clause = wrong_sets subfields_at clause
wrong content.Extract clause = wrong_sets itself_at clause

-- The texts of E307 of a clause: what is left out inside its expressions.
abbrev pub left_out : FieldContent → Clause → List (List ℕ)
left_out (content.Shared c) clause = shared.left_out c clause
left_out content.Rule clause = inside left_out_in (expression clause.content)
left_out content.Insert clause = left_out_sets clause
left_out content.Extract clause = left_out_sets clause
left_out _ clause = []
