-- The anyof operands of a format, and the choices that each has.
use Rattle.std.specs.Prelude.{ℕ, if◌then◌else◌, List, [], ◌∷◌, ◌++◌, map, Option, Some, None}
use Rattle.std.specs.List.{filter_map}
use Rattle.std.specs.Option.{option_map}
use Rattle.cg_base.specs.declared.form.Form.TheVariants as form
use Rattle.cg_base.specs.Texts.{is_among}
use Rattle.cg_insn.specs.declared.syntax.NamedPiece.TheVariants as piece
use Rattle.cg_operand.specs.declared.form.DerivedOperandForm.{DerivedOperandForm}
use Rattle.cg_operand.specs.declared.form.AnyofOperandForm.{AnyofOperandForm}
use Rattle.cg_desc_elements.specs.declared.element.Element.{Element}
use Rattle.cg_desc_references.specs.declared.reference.Place.TheVariants as place
use Rattle.cg_desc_names.specs.Table.{Table}
use Rattle.cg_desc_choices.specs.declared.written.Anyof.{Anyof}
use Rattle.cg_desc_choices.specs.declared.written.Choice.{Choice}
use Rattle.cg_desc_choices.specs.declared.written.WrittenPart.{WrittenPart}
use Rattle.cg_desc_choices.specs.declared.written.WrittenPiece.{WrittenPiece}
use Rattle.cg_desc_choices.specs.declared.written.NamedPart.{NamedPart}
use Rattle.cg_desc_choices.specs.declared.written.NamedPart.TheVariants.{Constant, Slot}
use Rattle.cg_desc_insns.specs.Named.{derived_named, anyof_named}
use Rattle.cg_desc_insns.specs.Parts.{is_taken, own_spot, parts_of}
use Rattle.cg_desc_insns.specs.Written.{all_pieces, expression_in}

-- A derived operand puts in place what its form says, a plain operand itself.
unfoldable pub derived_choice : Table → List Element → DerivedOperandForm → Choice
derived_choice at es d = record {
  name = d.name;
  pieces = all_pieces d.syntax;
  parts = parts_of at es place.EncodingPart d.encoding;
  assertion = option_map expression_in d.ifield_assertion;
  getter = expression_in d.getter;
  setter = Some (expression_in d.setter);
}

abbrev pub own_pieces : List ℕ → List WrittenPiece
own_pieces name = record { piece = piece.Slot name; spot = own_spot 0 } ∷ []

abbrev pub own_parts : List ℕ → List WrittenPart
own_parts name = record { part = Slot name; spot = own_spot 0 } ∷ []

unfoldable pub plain_choice : List ℕ → Choice
plain_choice name = record {
  name = name;
  pieces = own_pieces name;
  parts = own_parts name;
  assertion = None;
  getter = form.Symbol name;
  setter = None;
}

abbrev pub choice_by : Table → List Element → List ℕ → Option DerivedOperandForm → Choice
choice_by at es name None = plain_choice name
choice_by at es name (Some d) = derived_choice at es d

abbrev pub choice_of : Table → List Element → List ℕ → Choice
choice_of at es name = choice_by at es name (derived_named at es name)

-- A choice that is no plain or derived operand is left out.
abbrev pub known_choice : Table → List Element → List ℕ → Option Choice
known_choice at es name = if is_taken at place.Choice name then Some (choice_of at es name) else None

abbrev pub anyof_of : Table → List Element → AnyofOperandForm → Anyof
anyof_of at es a = record { operand = a.name; choices = filter_map (known_choice at es) a.choices }

-- The names of a format's slots, each once, where it stands first.
abbrev pub name_of_slot : NamedPart → Option (List ℕ)
name_of_slot (Constant field value) = None
name_of_slot (Slot name) = Some name

abbrev pub slot_name : WrittenPart → Option (List ℕ)
slot_name p = name_of_slot p.part

abbrev pub distinct_behind : List (List ℕ) → List (List ℕ) → List (List ℕ)
distinct_behind before [] = []
distinct_behind before (x ∷ xs) = if is_among before x then distinct_behind before xs else x ∷ distinct_behind (before ++ x ∷ []) xs

abbrev pub distinct : List (List ℕ) → List (List ℕ)
distinct names = distinct_behind [] names

-- The anyof operands among them, in the format's order.
abbrev pub anyofs_of : Table → List Element → List WrittenPart → List Anyof
anyofs_of at es ps = map (anyof_of at es) (filter_map (anyof_named at es) (distinct (filter_map slot_name ps)))
