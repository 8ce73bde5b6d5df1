-- The names in a clause that stand for other elements, each with its place, and what a rule for names says of them.
use Rattle.std.specs.Prelude.{ℕ, ◌+◌, Bool, if◌then◌else◌, List, [], ◌∷◌, ◌++◌, map, codes}
use Rattle.std.specs.List.{flat_map}
use Rattle.std.specs.Option.{option_or, unwrap_or}
use Rattle.cg_base.specs.declared.form.Form.{Form}
use Rattle.cg_base.specs.Parts.{headed_in, only_word}
use Rattle.cg_base.specs.Texts.{same_text}
use Rattle.cg_attrs.specs.Clauses.{Clause}
use Rattle.cg_desc_elements.specs.declared.kind.Kind.{Kind}
use Rattle.cg_desc_elements.specs.declared.kind.Kind.TheVariants.{Insn}
use Rattle.cg_desc_references.specs.declared.reference.Reference.{Reference}
use Rattle.cg_desc_references.specs.declared.reference.Place.TheVariants as place
use Rattle.cg_desc_references.specs.References.{names_in, slots, part, parts_in, listed}
use Rattle.cg_desc_choices.specs.declared.written.WrittenPiece.{WrittenPiece}
use Rattle.cg_desc_insns.specs.Parts.{own_spot}
use Rattle.cg_desc_insns.specs.Written.{all_pieces}
use Rattle.cg_desc_fault_report.specs.declared.saying.Placed.{Placed}
use Rattle.cg_desc_fault_report.specs.Saying.{only_text, placed}
use Rattle.cg_desc_fault_report.specs.Spots.{place_at}

pub record PlacedName : Type 0 where
  pub place : List ℕ
  pub reference : Reference

abbrev pub name_at : List ℕ → Reference → PlacedName
name_at place r = record { place = place; reference = r }

-- One behind the other.
abbrev pub names_from : ℕ → List Reference → List PlacedName
names_from k [] = []
names_from k (r ∷ rs) = name_at (k ∷ []) r ∷ names_from (k + 1) rs

abbrev pub place_of : ℕ → List ℕ
place_of k = k ∷ []

abbrev pub clause_names : Bool → Kind → Clause → List PlacedName
clause_names selected k c = names_from 0 (names_in selected k c)

-- Slots of a syntax by their pieces, and names in a format by its parts.
abbrev pub piece_names : WrittenPiece → List PlacedName
piece_names p = map (name_at (place_at p.spot)) (slots place.Slot (p.piece ∷ []))

abbrev pub syntax_text : List Form → List ℕ
syntax_text fs = unwrap_or (only_word fs) []

abbrev pub syntax_names : List Form → List PlacedName
syntax_names fs = flat_map piece_names (all_pieces (syntax_text fs))

abbrev pub part_names : ℕ → Form → List PlacedName
part_names item f = map (name_at (place_at (own_spot item))) (part place.Part f)

abbrev pub parts_names : ℕ → List Form → List PlacedName
parts_names item [] = []
parts_names item (f ∷ fs) = part_names item f ++ parts_names (item + 1) fs

abbrev pub format_names : List Form → List PlacedName
format_names fs = parts_names 0 (parts_in (option_or (headed_in fs) (listed fs)))

-- In a clause of an instruction, and of any other element.
abbrev pub insn_names : Bool → Clause → List PlacedName
insn_names selected c =
    if same_text (codes "syntax") c.name then syntax_names c.content
    else if same_text (codes "format") c.name then format_names c.content
    else clause_names selected Insn c

abbrev pub placed_names : Bool → Kind → Clause → List PlacedName
placed_names selected Insn c = insn_names selected c
placed_names selected k c = clause_names selected k c

-- A name that is at fault, by a test.
abbrev pub of_name : (Reference → Bool) → PlacedName → List Placed
of_name wrong x = if wrong x.reference then placed x.place (only_text x.reference.name) ∷ [] else []

abbrev pub of_names : (Reference → Bool) → List PlacedName → List Placed
of_names wrong xs = flat_map (of_name wrong) xs

-- Those at fault among the slots of pieces.
abbrev pub of_piece : (Reference → Bool) → WrittenPiece → List Placed
of_piece wrong p = of_names wrong (piece_names p)

abbrev pub of_pieces : (Reference → Bool) → List WrittenPiece → List Placed
of_pieces wrong ps = flat_map (of_piece wrong) ps
