-- E304 of words and literals: what `extern-keyword` names has a word that is none of hardware's, or literals that meet, where a choice is put
-- in, are no literal.
use Rattle.std.specs.Prelude.{ℕ, Bool, not, if◌then◌else◌, List, [], ◌∷◌, Option, Some, None, codes}
use Rattle.std.specs.List.{flat_map, list_all}
use Rattle.cg_base.specs.Parts.{◌>>=◌, Headed, headed_in, only_symbol}
use Rattle.cg_base.specs.Texts.{same_text}
use Rattle.cg_attrs.specs.Clauses.{Clause}
use Rattle.cg_attrs.specs.declared.frame.KeywordForm.{KeywordForm}
use Rattle.cg_insn.specs.declared.syntax.NamedPiece.TheVariants as named
use Rattle.cg_desc_elements.specs.declared.element.Element.{Element}
use Rattle.cg_desc_elements.specs.declared.element.Element.TheVariants as element
use Rattle.cg_model.specs.Formed.{is_piece, is_word}
use Rattle.cg_model.specs.declared.insn.Piece.TheVariants.{Literal}
use Rattle.cg_desc_choices.specs.declared.written.Spot.{Spot}
use Rattle.cg_desc_choices.specs.declared.written.Written.{Written}
use Rattle.cg_desc_choices.specs.declared.written.WrittenPiece.{WrittenPiece}
use Rattle.cg_desc_data.specs.Selecting.{Selection}
use Rattle.cg_desc_data.specs.Hardware.{keyword_named, words_of}
use Rattle.cg_desc_fault_report.specs.declared.saying.Placed.{Placed}
use Rattle.cg_desc_fault_report.specs.Saying.{only_text, placed}
use Rattle.cg_desc_fault_report.specs.Spots.{at_spot}

-- The words of a keyword are words of hardware.
abbrev pub has_words : KeywordForm → Bool
has_words form = list_all is_word (words_of form).words

abbrev pub wrong_words : List ℕ → Option KeywordForm → List Placed
wrong_words name None = []
wrong_words name (Some form) = if has_words form then [] else placed (0 ∷ []) (only_text name) ∷ []

abbrev pub wrong_keyword : Selection → Option (List ℕ) → List Placed
wrong_keyword s None = []
wrong_keyword s (Some name) = wrong_words name (keyword_named s name)

abbrev pub extern_name : Headed → Option (List ℕ)
extern_name x = if same_text (codes "extern-keyword") x.0 then only_symbol x.1 else None

unfoldable pub extern_in : Clause → Option (List ℕ)
extern_in c = headed_in c.content >>= extern_name

-- In a clause of hardware that gives its words.
abbrev pub in_hardware : Selection → Clause → List Placed
in_hardware s c =
    if same_text (codes "indices") c.name then wrong_keyword s (extern_in c)
    else if same_text (codes "values") c.name then wrong_keyword s (extern_in c)
    else []

abbrev pub of_words : Selection → Element → Clause → List Placed
of_words s (element.Hardware form) c = in_hardware s c
of_words s _ c = []

-- A literal of a syntax in which choices were put.
abbrev pub wrong_literal : Spot → List ℕ → List Placed
wrong_literal spot text = if is_piece (Literal text) then [] else at_spot spot (only_text (codes "syntax")) ∷ []

abbrev pub wrong_piece : WrittenPiece → List Placed
wrong_piece p = elim p.piece [ named.Slot name ↦ [] | named.Literal text ↦ wrong_literal p.spot text ]

abbrev pub wrong_literals : Written → List Placed
wrong_literals w = flat_map wrong_piece w.pieces

abbrev pub of_literals : List Written → List ℕ → List Placed
of_literals ws name = if same_text (codes "syntax") name then flat_map wrong_literals ws else []
