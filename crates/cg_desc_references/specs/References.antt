-- The names in a form that stand for other elements, in the order of their places in the form from left to right.
use Rattle.std.specs.Prelude.{ℕ, Bool, not, if◌then◌else◌, List, [], ◌∷◌, map, filter, Option, Some, None, codes}
use Rattle.std.specs.List.{filter_map, flat_map}
use Rattle.std.specs.Option.{option_or, unwrap_or}
use Rattle.cg_base.specs.declared.form.Form.{Form, out-Form}
use Rattle.cg_base.specs.declared.form.Form.TheOpen.{Symbol, Items}
use Rattle.cg_base.specs.Parts.{◌>>=◌, Layer, Headed, headed, headed_in, symbol_of, only, only_word}
use Rattle.cg_base.specs.Texts.{same_text}
use Rattle.cg_attrs.specs.declared.attr.Attr.{Attr}
use Rattle.cg_attrs.specs.Attrs.{attr_of}
use Rattle.cg_attrs.specs.Clauses.{Clause}
use Rattle.cg_attrs.specs.Contents.{only_elements}
use Rattle.cg_insn.specs.declared.syntax.NamedPiece.{NamedPiece}
use Rattle.cg_insn.specs.declared.syntax.NamedPiece.TheVariants.{Literal, Slot}
use Rattle.cg_insn.specs.Syntax.{pieces_of}
use Rattle.cg_desc_elements.specs.declared.kind.Kind.{Kind}
use Rattle.cg_desc_elements.specs.declared.kind.Kind.TheVariants as kind
use Rattle.cg_desc_references.specs.declared.reference.Place.{Place}
use Rattle.cg_desc_references.specs.declared.reference.Place.TheVariants as place
use Rattle.cg_desc_references.specs.declared.reference.Reference.{Reference}
use Rattle.cg_desc_references.specs.Clauses.{clauses_of}

abbrev pub reference : Place → List ℕ → Reference
reference at name = record { place = at; name = name; model = [] }

-- each symbol among the forms
abbrev pub symbols : Place → List Form → List Reference
symbols at fs = map (reference at) (filter_map symbol_of fs)

-- The names of attributes.
abbrev pub attr_reference : Attr → Reference
attr_reference a = reference place.Attribute a.name

abbrev pub attributes : List Form → List Reference
attributes fs = map attr_reference (filter_map attr_of fs)

-- `extern-keyword name`
abbrev pub keyword_behind : Headed → List Reference
keyword_behind x = if same_text (codes "extern-keyword") x.0 then symbols place.Keyword x.1 else []

abbrev pub keywords : Option Headed → List Reference
keywords None = []
keywords (Some x) = keyword_behind x

-- An index is a field, but for `f-nil`, which means none.
abbrev pub is_field_name : List ℕ → Bool
is_field_name name = not (same_text (codes "f-nil") name)

abbrev pub indices : List Form → List Reference
indices fs = map (reference place.AnyField) (filter is_field_name (filter_map symbol_of fs))

-- The slots of a syntax.
abbrev pub slot_name : NamedPiece → Option (List ℕ)
slot_name (Literal text) = None
slot_name (Slot name) = Some name

abbrev pub slots : Place → List NamedPiece → List Reference
slots at ps = map (reference at) (filter_map slot_name ps)

abbrev pub syntax_in : Place → Option (List ℕ) → List Reference
syntax_in at None = []
syntax_in at (Some text) = slots at (unwrap_or (pieces_of text) [])

abbrev pub syntax : Place → List Form → List Reference
syntax at fs = syntax_in at (only_word fs)

-- A part of a format is a name alone, or `(field number)`.
abbrev pub constant_in : List Form → List Reference
constant_in [] = []
constant_in (field ∷ fs) = symbols place.Field (field ∷ [])

abbrev pub part_in : Place → Layer → List Reference
part_in at (Symbol name) = reference at name ∷ []
part_in at (Items fs) = constant_in fs
part_in at _ = []

abbrev pub part : Place → Form → List Reference
part at f = part_in at (out-Form f)

-- The parts stand behind `+`, in a list of their own or without.
unfoldable pub listed : List Form → Option Headed
listed fs = only fs >>= headed

abbrev pub parts_in : Option Headed → List Form
parts_in None = []
parts_in (Some x) = x.1

abbrev pub parts : Place → List Form → List Reference
parts at fs = flat_map (part at) (parts_in (option_or (headed_in fs) (listed fs)))

-- `timing` names models, and behind each `(unit name ..)` units of it.
abbrev pub unit_reference : List ℕ → List ℕ → Reference
unit_reference model name = record { place = place.Unit; name = name; model = model }

abbrev pub unit_first : List ℕ → List Form → List Reference
unit_first model [] = []
unit_first model (f ∷ fs) = map (unit_reference model) (filter_map symbol_of (f ∷ []))

abbrev pub unit_in : List ℕ → Option Headed → List Reference
unit_in model None = []
unit_in model (Some x) = unit_first model x.1

abbrev pub unit : List ℕ → Form → List Reference
unit model f = unit_in model (headed f)

abbrev pub units : List ℕ → List Form → List Reference
units model fs = flat_map (unit model) fs

abbrev pub model_in : Option Headed → List Reference
model_in None = []
model_in (Some x) = reference place.Model x.0 ∷ units x.0 x.1

abbrev pub model : Form → List Reference
model f = model_in (headed f)

-- The names in a clause, by the kind of form that it stands in.
abbrev pub names_of_mach : Clause → List Reference
names_of_mach c =
    if same_text (codes "cpu") c.name then symbols place.Cpu c.content
    else if same_text (codes "isas") c.name then symbols place.Isa c.content
    else []

abbrev pub names_of_arch : Clause → List Reference
names_of_arch c =
    if same_text (codes "machs") c.name then symbols place.Mach c.content
    else if same_text (codes "isas") c.name then symbols place.Isa c.content
    else []

abbrev pub names_of_hardware : Clause → List Reference
names_of_hardware c =
    if same_text (codes "indices") c.name then keywords (headed_in c.content)
    else if same_text (codes "values") c.name then keywords (headed_in c.content)
    else []

abbrev pub names_of_operand : Clause → List Reference
names_of_operand c =
    if same_text (codes "type") c.name then symbols place.Hardware c.content
    else if same_text (codes "index") c.name then indices c.content
    else []

unfoldable pub names_of_coding : Clause → List Reference
names_of_coding c =
    if same_text (codes "base-ifield") c.name then symbols place.AnyField c.content
    else if same_text (codes "encoding") c.name then parts place.EncodingPart c.content
    else []

unfoldable pub names_of_derived : Clause → List Reference
names_of_derived c =
    if same_text (codes "args") c.name then symbols place.Argument (unwrap_or (only_elements c.content) [])
    else if same_text (codes "syntax") c.name then syntax place.DerivedSlot c.content
    else names_of_coding c

abbrev pub names_of_insn : Clause → List Reference
names_of_insn c =
    if same_text (codes "syntax") c.name then syntax place.Slot c.content
    else if same_text (codes "format") c.name then parts place.Part c.content
    else if same_text (codes "timing") c.name then flat_map model c.content
    else []

-- the names in the clause of this name alone
abbrev pub names_under : List ℕ → Place → Clause → List Reference
names_under name at c = if same_text name c.name then symbols at c.content else []

-- `bundle-field` is asked of the selected instruction set alone.
abbrev pub names_of_isa : Bool → Clause → List Reference
names_of_isa selected c = if selected then names_under (codes "bundle-field") place.Field c else []

abbrev pub names_by_kind : Bool → Kind → Clause → List Reference
names_by_kind selected kind.Isa c = names_of_isa selected c
names_by_kind selected kind.Arch c = names_of_arch c
names_by_kind selected kind.Mach c = names_of_mach c
names_by_kind selected kind.Model c = names_under (codes "mach") place.Mach c
names_by_kind selected kind.InsnEnum c = names_under (codes "field") place.Field c
names_by_kind selected kind.Multi c = names_under (codes "subfields") place.Field c
names_by_kind selected kind.Hardware c = names_of_hardware c
names_by_kind selected kind.Operand c = names_of_operand c
names_by_kind selected kind.Derived c = names_of_derived c
names_by_kind selected kind.Anyof c = names_under (codes "choices") place.Choice c
names_by_kind selected kind.Insn c = names_of_insn c
names_by_kind selected _ c = []

abbrev pub names_in : Bool → Kind → Clause → List Reference
names_in selected k c = if same_text (codes "attrs") c.name then attributes c.content else names_by_kind selected k c

-- The names in a form that an element of this kind gives.
abbrev pub references : Bool → Kind → Form → List Reference
references selected k f = flat_map (names_in selected k) (clauses_of k f)
