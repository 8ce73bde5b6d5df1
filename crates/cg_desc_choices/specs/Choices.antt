-- An instruction whose anyof operands are replaced by their choices (docs/LANGUAGE.md, "Choices").
use Rattle.std.specs.Prelude.{ℕ, Bool, false, List, [], ◌∷◌, ◌++◌, map, if◌then◌else◌, Option, Some, None, codes}
use Rattle.std.specs.List.{filter_map, flat_map}
use Rattle.std.specs.Option.{option_map}
use Rattle.cg_base.specs.declared.form.Form.{Form}
use Rattle.cg_base.specs.Texts.{same_text}
use Rattle.cg_insn.specs.declared.syntax.NamedPiece.{NamedPiece}
use Rattle.cg_insn.specs.declared.syntax.NamedPiece.TheVariants.{Literal, Slot}
use Rattle.cg_desc_choices.specs.declared.stand.Stand.{Stand}
use Rattle.cg_desc_choices.specs.declared.written.Choice.{Choice}
use Rattle.cg_desc_choices.specs.declared.written.Chosen as declared
use Rattle.cg_desc_choices.specs.declared.written.Written.{Written}
use Rattle.cg_desc_choices.specs.declared.written.Spot.{Spot}
use Rattle.cg_desc_choices.specs.declared.written.WrittenPiece.{WrittenPiece}
use Rattle.cg_desc_choices.specs.declared.written.NamedPart.{NamedPart}
use Rattle.cg_desc_choices.specs.declared.written.NamedPart.TheVariants as part
use Rattle.cg_desc_choices.specs.declared.written.WrittenPart.{WrittenPart}
use Rattle.cg_desc_choices.specs.declared.written.WrittenAssertion.{WrittenAssertion}
use Rattle.cg_desc_choices.specs.Putting.{put}

-- An anyof operand, and the choice that is made for it.
pub record Chosen : Type 0 where
  pub operand : List ℕ
  pub choice : Choice

abbrev pub seen_chosen : declared.Chosen → Chosen
seen_chosen c = record { operand = c.operand.now; choice = c.choice.now }

-- The choice for an operand, where one is made.
abbrev pub choice_for : List ℕ → List Chosen → Option Choice
choice_for name [] = None
choice_for name (c ∷ cs) = if same_text c.operand name then Some c.choice else choice_for name cs

-- What a choice puts in stands where the operand stands, at the place that it has in the choice's own clause.
abbrev pub within_spot : Spot → Spot → Spot
within_spot operand own = record { item = operand.item; inner = own.item }

abbrev pub piece_within : Spot → WrittenPiece → WrittenPiece
piece_within operand p = record { piece = p.piece; spot = within_spot operand p.spot }

abbrev pub part_within : Spot → WrittenPart → WrittenPart
part_within operand p = record { part = p.part; spot = within_spot operand p.spot }

-- A slot of the syntax becomes the pieces of its choice.
abbrev pub pieces_by : WrittenPiece → Option Choice → List WrittenPiece
pieces_by p None = p ∷ []
pieces_by p (Some c) = map (piece_within p.spot) c.pieces

abbrev pub choice_of_piece : List Chosen → NamedPiece → Option Choice
choice_of_piece cs (Literal text) = None
choice_of_piece cs (Slot name) = choice_for name cs

abbrev pub pieces_for : List Chosen → WrittenPiece → List WrittenPiece
pieces_for cs p = pieces_by p (choice_of_piece cs p.piece)

-- Literals that meet are one literal, which stands where the first does.
abbrev pub literal_at : Spot → List ℕ → WrittenPiece
literal_at spot text = record { piece = Literal text; spot = spot }

abbrev pub literal_before : Spot → List ℕ → WrittenPiece → NamedPiece → List WrittenPiece → List WrittenPiece
literal_before spot text p (Literal next) ps = literal_at spot (text ++ next) ∷ ps
literal_before spot text p (Slot name) ps = literal_at spot text ∷ p ∷ ps

abbrev pub literal_meeting : Spot → List ℕ → List WrittenPiece → List WrittenPiece
literal_meeting spot text [] = literal_at spot text ∷ []
literal_meeting spot text (p ∷ ps) = literal_before spot text p p.piece ps

abbrev pub meeting : WrittenPiece → NamedPiece → List WrittenPiece → List WrittenPiece
meeting p (Literal text) ps = literal_meeting p.spot text ps
meeting p (Slot name) ps = p ∷ ps

abbrev pub joined : List WrittenPiece → List WrittenPiece
joined [] = []
joined (p ∷ ps) = meeting p p.piece (joined ps)

abbrev pub pieces_with : List Chosen → List WrittenPiece → List WrittenPiece
pieces_with cs ps = joined (flat_map (pieces_for cs) ps)

-- A slot of the format becomes the parts of its choice.
abbrev pub parts_by : WrittenPart → Option Choice → List WrittenPart
parts_by p None = p ∷ []
parts_by p (Some c) = map (part_within p.spot) c.parts

abbrev pub choice_of_part : List Chosen → NamedPart → Option Choice
choice_of_part cs (part.Constant field value) = None
choice_of_part cs (part.Slot name) = choice_for name cs

abbrev pub parts_for : List Chosen → WrittenPart → List WrittenPart
parts_for cs p = parts_by p (choice_of_part cs p.part)

abbrev pub parts_with : List Chosen → List WrittenPart → List WrittenPart
parts_with cs ps = flat_map (parts_for cs) ps

-- In expressions a choice's getter and setter stand for the operand; nothing is set in an assertion.
abbrev pub stand : Chosen → Stand
stand c = record { name = c.operand; getter = c.choice.getter; setter = c.choice.setter }

abbrev pub read_only : Chosen → Stand
read_only c = record { name = c.operand; getter = c.choice.getter; setter = None }

abbrev pub own_assertion : List Chosen → Form → Form
own_assertion cs f = put (map read_only cs) f

-- Where an operand first stands in a format.
abbrev pub is_slot_of : List ℕ → NamedPart → Bool
is_slot_of name (part.Constant field value) = false
is_slot_of name (part.Slot slot) = same_text slot name

abbrev pub spot_of : List ℕ → List WrittenPart → Spot
spot_of name [] = record { item = 0; inner = 0 }
spot_of name (p ∷ ps) = if is_slot_of name p.part then p.spot else spot_of name ps

-- The assertions of choices, each where its operand first stands in the format, in the order of the operands there.
abbrev pub assertion_at : Spot → Form → WrittenAssertion
assertion_at spot f = record { form = f; spot = spot }

abbrev pub assertion_of : List WrittenPart → Chosen → Option WrittenAssertion
assertion_of ps c = option_map (assertion_at (spot_of c.operand ps)) c.choice.assertion

abbrev pub assertions_of : List WrittenPart → List Chosen → List WrittenAssertion
assertions_of ps cs = filter_map (assertion_of ps) cs

-- The instruction's name, and behind a `-` each the names of its choices.
abbrev pub behind_dash : Chosen → List ℕ
behind_dash c = codes "-" ++ c.choice.name

abbrev pub name_with : List Chosen → List ℕ → List ℕ
name_with cs name = name ++ flat_map behind_dash cs

-- The instruction with these choices, one for each anyof operand of its format, in their order.
unfoldable pub with_choices : List Chosen → Written → Written
with_choices cs w = record {
  form = w.form;
  name = name_with cs w.name;
  pieces = pieces_with cs w.pieces;
  parts = parts_with cs w.parts;
  assertion = option_map (own_assertion cs) w.assertion;
  choice_assertions = w.choice_assertions ++ assertions_of w.parts cs;
  semantics = put (map stand cs) w.semantics;
}

-- All assertions of an instruction: its own, then those of its choices.
abbrev pub form_of : WrittenAssertion → Form
form_of a = a.form

abbrev pub with_own : Option Form → List Form → List Form
with_own None fs = fs
with_own (Some f) fs = f ∷ fs

abbrev pub all_assertions : Written → List Form
all_assertions w = with_own w.assertion (map form_of w.choice_assertions)
