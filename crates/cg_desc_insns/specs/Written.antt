-- An instruction as its form says it, with its anyof operands. A part that isn't defined is left out.
use Rattle.std.specs.Prelude.{ℕ, ◌+◌, List, [], ◌∷◌, Option}
use Rattle.std.specs.Option.{option_map, unwrap_or}
use Rattle.cg_base.specs.declared.form.Form.{Form}
use Rattle.cg_base.specs.Parts.{◌>>=◌, elements_of, only}
use Rattle.cg_insn.specs.declared.form.InstructionForm.{InstructionForm}
use Rattle.cg_insn.specs.declared.syntax.NamedPiece.{NamedPiece}
use Rattle.cg_insn.specs.Syntax.{pieces_of}
use Rattle.cg_desc_elements.specs.declared.element.Element.{Element}
use Rattle.cg_desc_references.specs.declared.reference.Place.TheVariants as place
use Rattle.cg_desc_names.specs.Table.{Table}
use Rattle.cg_desc_choices.specs.declared.written.Written.{Written}
use Rattle.cg_desc_choices.specs.declared.written.WrittenPiece.{WrittenPiece}
use Rattle.cg_desc_insns.specs.Parts.{own_spot, parts_of}

-- The one expression that stands behind a clause's name.
unfoldable pub only_in : Form → Option Form
only_in f = elements_of f >>= only

abbrev pub expression_in : Form → Form
expression_in f = unwrap_or (only_in f) f

-- The pieces of a syntax, each with its place there.
abbrev pub pieces_from : ℕ → List NamedPiece → List WrittenPiece
pieces_from item [] = []
pieces_from item (p ∷ ps) = record { piece = p; spot = own_spot item } ∷ pieces_from (item + 1) ps

abbrev pub all_pieces : List ℕ → List WrittenPiece
all_pieces text = pieces_from 0 (unwrap_or (pieces_of text) [])

-- The instruction that the form of this number says.
unfoldable pub written_of : Table → List Element → ℕ → InstructionForm → Written
written_of at es form i = record {
  form = form;
  name = i.name;
  pieces = all_pieces i.syntax;
  parts = parts_of at es place.Part i.format;
  assertion = option_map expression_in i.ifield_assertion;
  choice_assertions = [];
  semantics = expression_in i.semantics;
}
