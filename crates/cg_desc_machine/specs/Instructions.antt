-- The instructions of a machine.
use Rattle.std.specs.Prelude.{ℕ, min, Bool, false, not, ◌&&◌, ◌||◌, List, [], ◌∷◌, ◌++◌, map, filter, pos, slice_get, Option, Some, None, codes}
use Rattle.std.specs.List.{filter_map, list_any}
use Rattle.std.specs.Option.{option_map, unwrap_or}
use Rattle.cg_base.specs.declared.form.Form.{Form}
use Rattle.cg_base.specs.Operations.{wrapped}
use Rattle.cg_base.specs.Parts.{◌>>=◌}
use Rattle.cg_base.specs.Texts.{is_among}
use Rattle.cg_attrs.specs.declared.attr.Attr.{Attr}
use Rattle.cg_attrs.specs.declared.attr.AttrValue.{AttrValue}
use Rattle.cg_attrs.specs.declared.attr.AttrValue.TheVariants.{Flag}
use Rattle.cg_insn.specs.declared.form.InstructionForm.{InstructionForm}
use Rattle.cg_insn.specs.declared.form.InsnForm.TheVariants as insn
use Rattle.cg_insn.specs.declared.syntax.NamedPiece.{NamedPiece}
use Rattle.cg_insn.specs.declared.syntax.NamedPiece.TheVariants as named
use Rattle.cg_desc_elements.specs.declared.element.Element.{Element}
use Rattle.cg_desc_elements.specs.declared.element.Element.TheVariants as element
use Rattle.cg_desc_elements.specs.Belonging.{is_attr_named}
use Rattle.cg_model.specs.declared.insn.Insn.{Insn}
use Rattle.cg_model.specs.declared.insn.Part.{Part}
use Rattle.cg_model.specs.declared.insn.Part.TheVariants as part
use Rattle.cg_model.specs.declared.insn.Piece.{Piece}
use Rattle.cg_model.specs.declared.insn.Piece.TheVariants as piece
use Rattle.cg_model.specs.declared.operand.Operand.{Operand}
use Rattle.cg_model.specs.declared.rtl.Op.TheVariants as op
use Rattle.cg_model.specs.declared.rtl.Rtl.{Rtl}
use Rattle.cg_model_faults.specs.E306.{lies_in_fields}
use Rattle.cg_rtl_resolve.specs.declared.scope.Rule.TheVariants as rule
use Rattle.cg_rtl_resolve.specs.declared.scope.Scope.{Scope}
use Rattle.cg_rtl_resolve.specs.Names.{place_of, node, rtl_of}
use Rattle.cg_desc_choices.specs.declared.written.NamedPart.{NamedPart}
use Rattle.cg_desc_choices.specs.declared.written.NamedPart.TheVariants.{Constant, Slot}
use Rattle.cg_desc_choices.specs.declared.written.Written.{Written}
use Rattle.cg_desc_choices.specs.declared.written.WrittenPart.{WrittenPart}
use Rattle.cg_desc_choices.specs.declared.written.WrittenPiece.{WrittenPiece}
use Rattle.cg_desc_choices.specs.Choices.{all_assertions}
use Rattle.cg_desc_insns.specs.Choices.{slot_name, distinct}
use Rattle.cg_desc_data.specs.Selecting.{Selection, element_at}
use Rattle.cg_desc_data.specs.Numbering.{Numbering}
use Rattle.cg_desc_scope.specs.Described.{Described, scope_in}
use Rattle.cg_desc_scope.specs.Timing.{cycles_of}

-- The slot of a piece.
abbrev pub slot_of : WrittenPiece → Option (List ℕ)
slot_of p = elim p.piece [ named.Literal text ↦ None | named.Slot name ↦ Some name ]

-- An operand of the syntax that has no field and isn't in the format is a slot of the format too, behind the others.
abbrev pub has_no_field : Numbering → List Operand → List ℕ → Bool
has_no_field operands os name = elim (operands name) [ None ↦ false | Some k ↦ not (lies_in_fields (slice_get os k)) ]

abbrev pub is_behind : Numbering → List Operand → List (List ℕ) → List ℕ → Bool
is_behind operands os slots name = not (is_among slots name) && has_no_field operands os name

abbrev pub slots_behind : Numbering → List Operand → List (List ℕ) → List WrittenPiece → List (List ℕ)
slots_behind operands os slots ps = distinct (filter (is_behind operands os slots) (filter_map slot_of ps))

abbrev pub format_slots : Written → List (List ℕ)
format_slots w = filter_map slot_name w.parts

abbrev pub behind_format : Described → Written → List (List ℕ)
behind_format d w = slots_behind d.operand_numbers d.operands (format_slots w) w.pieces

-- The names of an instruction's slots, in the order of the format.
abbrev pub slot_names : Described → Written → List (List ℕ)
slot_names d w = format_slots w ++ behind_format d w

-- The parts of a format: numbers for names. A constant that no field can hold, which is a fault, is kept modulo 2^64.
abbrev pub number_or_none : Numbering → List ℕ → ℕ
number_or_none numbers name = unwrap_or (numbers name) 0

abbrev pub part_of : Described → NamedPart → Part
part_of d (Constant field value) = part.Constant (number_or_none d.numbers.fields field) (wrapped 64 value)
part_of d (Slot name) = part.Slot (number_or_none d.operand_numbers name)

abbrev pub part_in : Described → WrittenPart → Part
part_in d p = part_of d p.part

abbrev pub slot_part : Described → List ℕ → Part
slot_part d name = part.Slot (number_or_none d.operand_numbers name)

abbrev pub parts_of : Described → Written → List Part
parts_of d w = map (part_in d) w.parts ++ map (slot_part d) (behind_format d w)

-- The pieces of a syntax: a slot is the first of its name. A slot that the format lacks is left out.
abbrev pub slot_number : List (List ℕ) → List ℕ → Option ℕ
slot_number slots name = option_map (λ k. min k 255) (place_of name slots)

abbrev pub piece_of : List (List ℕ) → NamedPiece → Option Piece
piece_of slots (named.Literal text) = Some (piece.Literal text)
piece_of slots (named.Slot name) = option_map piece.Slot (slot_number slots name)

abbrev pub piece_in : List (List ℕ) → WrittenPiece → Option Piece
piece_in slots p = piece_of slots p.piece

abbrev pub pieces_of : List (List ℕ) → List WrittenPiece → List Piece
pieces_of slots ps = filter_map (piece_in slots) ps

-- Several assertions have to hold together.
abbrev pub joined_assertions : List Rtl → Option Rtl
joined_assertions [] = None
joined_assertions (r ∷ []) = Some r
joined_assertions (r ∷ s ∷ rs) = Some (node op.AndIf None (pos 0) (r ∷ s ∷ rs))

abbrev pub assertion_of : Scope → List Form → Option Rtl
assertion_of scope fs = joined_assertions (map (rtl_of (scope_in scope rule.Assertion None)) fs)

-- Bytes are decoded to an instruction unless it has the flag `ALIAS` or `NO-DIS`.
abbrev pub is_set : AttrValue → Bool
is_set (Flag b) = b
is_set _ = false

abbrev pub hides : Attr → Bool
hides a = (is_attr_named (codes "ALIAS") a || is_attr_named (codes "NO-DIS") a) && is_set a.value

abbrev pub is_decodable : InstructionForm → Bool
is_decodable form = not (list_any hides form.attrs)

-- A machine keeps counts up to 2^32 - 1. That an instruction takes fewer cycles is a rule of its own.
abbrev pub kept_cycles : ℕ → ℕ
kept_cycles n = min n 4294967295

abbrev pub insn_by : Described → Scope → Written → InstructionForm → Insn
insn_by d scope w form = record {
  name = w.name;
  pieces = pieces_of (slot_names d w) w.pieces;
  parts = parts_of d w;
  assertion = assertion_of scope (all_assertions w);
  decodable = is_decodable form;
  cycles = kept_cycles (cycles_of d.model form);
  semantics = rtl_of scope w.semantics;
}

-- The form of an instruction.
abbrev pub instruction_in : Element → Option InstructionForm
instruction_in (element.Insn (insn.Instruction form)) = Some form
instruction_in _ = None

abbrev pub form_of : Selection → Written → Option InstructionForm
form_of s w = element_at s.elements w.form >>= instruction_in

abbrev pub insn_of : Described → Scope → Written → Option Insn
insn_of d scope w = option_map (insn_by d scope w) (form_of d.selection w)

abbrev pub insns_of : Described → Scope → List Insn
insns_of d scope = filter_map (insn_of d scope) d.written
