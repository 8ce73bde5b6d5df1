-- What a description's forms say, each to the reader of its head, and what is at fault in them.
use Rattle.std.specs.Prelude.{◌≡◌, ℕ, if◌then◌else◌, List, [], ◌∷◌, map, Option, Some, None, Result, Ok, Err, codes}
use Rattle.std.specs.List.{filter_map}
use Rattle.std.specs.Option.{option_map}
use Rattle.cg_base.specs.declared.form.Form.{Form}
use Rattle.cg_base.specs.declared.form.Top.{Top}
use Rattle.cg_base.specs.declared.refusal.Refusal.{Refusal}
use Rattle.cg_base.specs.declared.refusal.Stop.{Stop}
use Rattle.cg_base.specs.declared.refusal.Stop.TheVariants.{Refused, NoMemory}
use Rattle.cg_base.specs.Parts.{Headed, headed}
use Rattle.cg_base.specs.declared.fault.Fault as declared
use Rattle.cg_base.specs.Refusing.{Fault, FaultTexts, seen_fault, first, least, refusal_at}
use Rattle.cg_base.specs.Texts.{same_text}
use Rattle.cg_attrs.specs.Frames.{frame_of, frame_faults}
use Rattle.cg_ifield.specs.Fields.{field_of, field_faults}
use Rattle.cg_hw.specs.Hardware.{hardware_of, hardware_faults}
use Rattle.cg_operand.specs.Operands.{operand_of, operand_faults}
use Rattle.cg_insn.specs.Instructions.{insn_of, insn_faults}
use Rattle.cg_desc_elements.specs.declared.element.Element.{Element}
use Rattle.cg_desc_elements.specs.declared.element.Element.TheVariants as element
use Rattle.cg_desc_elements.specs.declared.reading.Reader.{Reader}
use Rattle.cg_desc_elements.specs.declared.reading.Reader.TheVariants.{Frames, Fields, Hardware, Operands, Insns}
use Rattle.cg_desc_elements.specs.Heads.{reader_named}

-- What a form says to a reader, where it has no fault, and what is at fault in it.
abbrev pub said_to : Reader → Form → Option Element
said_to Frames f = option_map element.Frame (frame_of f)
said_to Fields f = option_map element.Field (field_of f)
said_to Hardware f = option_map element.Hardware (hardware_of f)
said_to Operands f = option_map element.Operand (operand_of f)
said_to Insns f = option_map element.Insn (insn_of f)

abbrev pub faults_to : Reader → Form → FaultTexts
faults_to Frames f = frame_faults f
faults_to Fields f = field_faults f
faults_to Hardware f = hardware_faults f
faults_to Operands f = operand_faults f
faults_to Insns f = insn_faults f

-- The reader of a form, or the fault of a form that none reads: `if` is left out, and E301 is for a symbol that no reader has, and
-- for a form that no symbol heads.
abbrev pub reader_or_unknown : List ℕ → Option Reader → Result Reader Fault
reader_or_unknown head None = Err (301, head)
reader_or_unknown head (Some reader) = Ok reader

abbrev pub reader_under : List ℕ → Result Reader Fault
reader_under head = if same_text (codes "if") head then Err (307, codes "if") else reader_or_unknown head (reader_named head)

abbrev pub reader_behind : Option Headed → Result Reader Fault
reader_behind None = Err (301, codes "form")
reader_behind (Some x) = reader_under x.0

abbrev pub reader_for : Form → Result Reader Fault
reader_for f = reader_behind (headed f)

-- a reader, or a fault that is lent
abbrev pub seen_reader : Result Reader declared.Fault → Result Reader Fault
seen_reader (Ok reader) = Ok reader
seen_reader (Err fault) = Err (seen_fault fault)

-- What a form says to its reader, and what is at fault in it.
abbrev pub said_by : Form → Result Reader Fault → Option Element
said_by f (Ok reader) = said_to reader f
said_by f (Err fault) = None

abbrev pub faults_by : Form → Result Reader Fault → FaultTexts
faults_by f (Ok reader) = faults_to reader f
faults_by f (Err fault) = (fault.0, fault.1 ∷ []) ∷ []

abbrev pub element_of : Form → Option Element
element_of f = said_by f (reader_for f)

abbrev pub element_faults : Form → FaultTexts
element_faults f = faults_by f (reader_for f)

-- The refusal of a form that has a fault.
abbrev pub form_refusal : Top → Option Refusal
form_refusal t = option_map (refusal_at t.file t.line) (least (element_faults t.form))

-- The refusal of forms: that of the first that has one.
abbrev pub first_refusal : List Top → Option Refusal
first_refusal ts = first (filter_map form_refusal ts)

-- What a form says, where it stands.
abbrev pub element_at : Top → Option Element
element_at t = element_of t.form

-- What is answered of forms: an element of each, in order, where none of them is refused, and else the refusal of the first that is.
-- Memory may run out.
abbrev pub GivesElements : List Top → Result (List Element) Stop → Type 0
GivesElements ts (Ok es) = (first_refusal ts ≡ None) × (map Some es ≡ map element_at ts)
GivesElements ts (Err (Refused refusal)) = first_refusal ts ≡ Some refusal
GivesElements ts (Err NoMemory) = Unit {0}
