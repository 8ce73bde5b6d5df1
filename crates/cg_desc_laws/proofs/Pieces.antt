-- The literals of a syntax as it is written are literals of a machine, and so are those of macro instructions.
use Rattle.std.proofs.Common.{◌≡◌, ◌∙◌, ℕ, ◌+◌, Bool, true, false, not, ◌&&◌, ◌||◌, ◌==◌, List, [], ◌∷◌, Option, Some, None, refl, ap}
use Rattle.std.specs.List.{list_all, filter_map, cons_option}
use Rattle.std.specs.Option.{option_map, unwrap_or}
use Rattle.std.proofs.lemmas.Bool.{false≢true}
use Rattle.cg_base.specs.Grammar.{is_string_byte}
use Rattle.cg_desc_laws_forms.proofs.Clauses.{first_true, second_true}
use Rattle.cg_insn.specs.declared.syntax.NamedPiece.{NamedPiece}
use Rattle.cg_insn.specs.declared.syntax.NamedPiece.TheVariants as named
use Rattle.cg_insn.specs.Syntax as syntax
use Rattle.cg_insn.specs.Syntax.{Writes, nothing, as_it_is, bare, in_braces, pieces_of, is_literal, is_not_dollar}
use Rattle.cg_insn.proofs.Written.{written}
use Rattle.cg_insn.specs.declared.form.MacroForm.{MacroForm}
use Rattle.cg_model.specs.Formed.{is_literal_byte, begins_with_bar, has_bars, is_piece, is_macro}
use Rattle.cg_model.specs.declared.insn.MacroInsn.{MacroInsn}
use Rattle.cg_model.specs.declared.insn.Piece.TheVariants.{Literal, Slot}
use Rattle.cg_desc_insns.specs.Written.{pieces_from, all_pieces}
use Rattle.cg_desc_scope.specs.Described.{Described}
use Rattle.cg_desc_data.specs.Selecting.{members}
use Rattle.cg_desc_machine.specs.Instructions.{slot_number, piece_in}
use Rattle.cg_desc_machine.specs.Instructions as instructions
use Rattle.cg_desc_machine.specs.Macros.{macro_in, macro_slots, target_of, macro_by, macro_of, macros_of}

-- the bytes of a literal
one_byte : (b : ℕ) (a c d e : Bool) → ((a && not d) && not e) ≡ true → not c ≡ true → (((a && not c) && not e) && not d) ≡ true
one_byte b false c d e h g = absurd (false≢true h)
one_byte b true true d e h g = absurd (false≢true g)
one_byte b true false true e h g = absurd (false≢true h)
one_byte b true false false true h g = absurd (false≢true h)
one_byte b true false false false h g = refl

all_literal : (bs : List ℕ) → list_all syntax.is_literal_byte bs ≡ true → list_all is_not_dollar bs ≡ true → list_all is_literal_byte bs ≡ true
all_literal [] h g = refl
all_literal (b ∷ bs) h g =
    ap (λ t. t && list_all is_literal_byte bs) (one_byte b (is_string_byte b) (b == 36) (b == 34) (b == 59) (first_true (syntax.is_literal_byte b) (list_all syntax.is_literal_byte bs) h) (first_true (is_not_dollar b) (list_all is_not_dollar bs) g))
    ∙ all_literal bs (second_true (syntax.is_literal_byte b) (list_all syntax.is_literal_byte bs) h) (second_true (is_not_dollar b) (list_all is_not_dollar bs) g)

same_begin : (bs : List ℕ) → begins_with_bar bs ≡ syntax.begins_with_bar bs
same_begin [] = refl
same_begin (b ∷ bs) = refl

same_bars : (bs : List ℕ) → has_bars bs ≡ syntax.has_bars bs
same_bars [] = refl
same_bars (b ∷ bs) = ap (λ t. (b == 124 && t) || has_bars bs) (same_begin bs) ∙ ap (λ t. (b == 124 && syntax.begins_with_bar bs) || t) (same_bars bs)

joined : (a b : Bool) → a ≡ true → b ≡ true → (a && b) ≡ true
joined true b e f = f
joined false b e f = e

literal_piece : (text : List ℕ) → is_literal text ≡ true → list_all is_not_dollar text ≡ true → is_piece (Literal text) ≡ true
literal_piece text h g =
    joined (list_all is_literal_byte text) (not (has_bars text)) (all_literal text (first_true (list_all syntax.is_literal_byte text) (not (syntax.has_bars text)) h) g)
    (ap not (same_bars text) ∙ second_true (list_all syntax.is_literal_byte text) (not (syntax.has_bars text)) h)

abbrev is_good : NamedPiece → Bool
is_good (named.Literal text) = is_piece (Literal text)
is_good (named.Slot name) = true

written_good : (ps : List NamedPiece) (text : List ℕ) → Writes ps text → list_all is_good ps ≡ true
written_good _ _ nothing = refl
written_good _ _ (as_it_is {ps} {bs} text some literal plain ends rest) = ap (λ t. t && list_all is_good ps) (literal_piece text literal plain) ∙ written_good ps bs rest
written_good _ _ (bare {ps} {bs} name some good ends rest) = written_good ps bs rest
written_good _ _ (in_braces {ps} {bs} name some good rest) = written_good ps bs rest

-- those that a machine keeps
kept_good : (slots : List (List ℕ)) (k : ℕ) (ps : List NamedPiece) → list_all is_good ps ≡ true → list_all is_piece (filter_map (piece_in slots) (pieces_from k ps)) ≡ true
kept_good slots k [] h = refl
kept_good slots k (named.Literal text ∷ ps) h =
    joined (is_piece (Literal text)) _ (first_true (is_piece (Literal text)) (list_all is_good ps) h) (kept_good slots (k + 1) ps (second_true (is_piece (Literal text)) (list_all is_good ps) h))
kept_good slots k (named.Slot name ∷ ps) h = by (slot_number slots name) (kept_good slots (k + 1) ps h) where
  by : (o : Option ℕ) → list_all is_piece (filter_map (piece_in slots) (pieces_from (k + 1) ps)) ≡ true → list_all is_piece (cons_option (option_map Slot o) (filter_map (piece_in slots) (pieces_from (k + 1) ps))) ≡ true
  by None rest = rest
  by (Some n) rest = rest

text_pieces : (slots : List (List ℕ)) (text : List ℕ) → list_all is_piece (instructions.pieces_of slots (all_pieces text)) ≡ true
text_pieces slots text = by (pieces_of text) refl where
  by : (o : Option (List NamedPiece)) → pieces_of text ≡ o → list_all is_piece (instructions.pieces_of slots (all_pieces text)) ≡ true
  by None is = ap (λ o. list_all is_piece (filter_map (piece_in slots) (pieces_from 0 (unwrap_or o [])))) is
  by (Some ps) is = ap (λ o. list_all is_piece (filter_map (piece_in slots) (pieces_from 0 (unwrap_or o [])))) is ∙ kept_good slots 0 ps (written_good ps text (written text ps is))

macro_good : (d : Described) (form : MacroForm) (o : Option ℕ) (rest : List MacroInsn) → list_all is_macro rest ≡ true → list_all is_macro (cons_option (option_map (macro_by d form (macro_slots d.operand_numbers form)) o) rest) ≡ true
macro_good d form None rest h = h
macro_good d form (Some k) rest h = joined (list_all is_piece (instructions.pieces_of (macro_slots d.operand_numbers form) (all_pieces form.syntax))) (list_all is_macro rest) (text_pieces (macro_slots d.operand_numbers form) form.syntax) h

all_macros : (d : Described) (forms : List MacroForm) → list_all is_macro (filter_map (macro_of d) forms) ≡ true
all_macros d [] = refl
all_macros d (form ∷ forms) = macro_good d form (target_of d.written form) (filter_map (macro_of d) forms) (all_macros d forms)

pub macros_formed : (d : Described) → list_all is_macro (macros_of d) ≡ true
macros_formed d = all_macros d (members d.selection macro_in)
