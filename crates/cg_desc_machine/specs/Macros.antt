-- The macro instructions of a machine.
use Rattle.std.specs.Prelude.{ℕ, ◌%◌, ◌^◌, if◌then◌else◌, List, [], ◌∷◌, map, drop, ℤ, pos, slice_get, Option, Some, None}
use Rattle.std.specs.List.{filter_map}
use Rattle.std.specs.Option.{option_map, option_or, unwrap_or}
use Rattle.cg_base.specs.declared.form.Form.{Form, out-Form}
use Rattle.cg_base.specs.declared.form.Form.TheOpen.{Number, Symbol, Items}
use Rattle.cg_base.specs.declared.mode.Mode.{Mode}
use Rattle.cg_base.specs.declared.mode.Mode.TheVariants.{Usi}
use Rattle.cg_base.specs.Modes.{bits_of}
use Rattle.cg_base.specs.Operations.{as_signed}
use Rattle.cg_base.specs.Parts.{◌>>=◌, Layer, Headed, headed, symbol_of}
use Rattle.cg_base.specs.Texts.{same_text}
use Rattle.cg_rtl.specs.Shapes.{first_symbol}
use Rattle.cg_insn.specs.declared.form.MacroForm.{MacroForm}
use Rattle.cg_insn.specs.declared.form.InsnForm.TheVariants as insn
use Rattle.cg_desc_elements.specs.declared.element.Element.{Element}
use Rattle.cg_desc_elements.specs.declared.element.Element.TheVariants as element
use Rattle.cg_model.specs.Placed.{is_register}
use Rattle.cg_model.specs.Words.{word_value, named_values}
use Rattle.cg_model.specs.declared.hardware.Hardware.{Hardware}
use Rattle.cg_model.specs.declared.insn.Given.{Given}
use Rattle.cg_model.specs.declared.insn.Given.TheVariants as given
use Rattle.cg_model.specs.declared.insn.MacroInsn.{MacroInsn}
use Rattle.cg_model.specs.declared.operand.Operand.{Operand}
use Rattle.cg_rtl_resolve.specs.Names.{place_of}
use Rattle.cg_desc_choices.specs.declared.written.Written.{Written}
use Rattle.cg_desc_insns.specs.Choices.{distinct}
use Rattle.cg_desc_insns.specs.Written.{only_in, all_pieces}
use Rattle.cg_desc_data.specs.Selecting.{members}
use Rattle.cg_desc_data.specs.Numbering.{Numbering, short}
use Rattle.cg_desc_scope.specs.Described.{Described}
use Rattle.cg_desc_machine.specs.Instructions.{slot_of, slot_number, pieces_of, slot_names, number_or_none}

abbrev pub macro_in : Element → Option MacroForm
macro_in (element.Insn (insn.Macro form)) = Some form
macro_in _ = None

-- The slots of its syntax: the names of operands, each once.
abbrev pub known_operand : Numbering → List ℕ → Option (List ℕ)
known_operand operands name = option_map (λ k. name) (operands name)

abbrev pub macro_slots : Numbering → MacroForm → List (List ℕ)
macro_slots operands form = distinct (filter_map (known_operand operands) (filter_map slot_of (all_pieces form.syntax)))

-- What stands behind `emit` in `(emit insn item ..)`: the name of an instruction, and items.
unfoldable pub emitted_in : MacroForm → Option Headed
emitted_in form = only_in form.expansions >>= headed

abbrev pub emitted : MacroForm → List Form
emitted form = elim (emitted_in form) [ None ↦ [] | Some x ↦ x.1 ]

abbrev pub emitted_name : MacroForm → List ℕ
emitted_name form = unwrap_or (first_symbol (emitted form)) []

abbrev pub emitted_items : MacroForm → List Form
emitted_items form = drop 1 (emitted form)

-- The emitted instruction is the first of its name, as names are with choices in place.
abbrev pub written_name : Written → List ℕ
written_name w = w.name

abbrev pub target_of : List Written → MacroForm → Option ℕ
target_of ws form = place_of (emitted_name form) (map written_name ws)

-- An item: an operand's name alone, or with what it is given.
abbrev pub item_in : Layer → Option (List ℕ × Option Form)
item_in (Symbol name) = Some (name, None)
item_in (Items (operand ∷ x ∷ [])) = elim (symbol_of operand) [ None ↦ None | Some name ↦ Some (name, Some x) ]
item_in _ = None

abbrev pub item_of : Form → Option (List ℕ × Option Form)
item_of f = item_in (out-Form f)

abbrev pub items_of : MacroForm → List (List ℕ × Option Form)
items_of form = filter_map item_of (emitted_items form)

-- A keyword of an operand: the first that a word is, letter case aside. Its value is one of the slot's mode, as a number with a sign.
abbrev pub mode_of_slot : Hardware → Mode
mode_of_slot h = if is_register h.kind then Usi else h.mode

abbrev pub kept_value : Hardware → ℕ → ℤ
kept_value h n = as_signed 64 (n % 2 ^ bits_of (mode_of_slot h))

abbrev pub keyword_number : Hardware → List ℕ → Option ℤ
keyword_number h word = option_map (kept_value h) (word_value (named_values h.keyword) word)

unfoldable pub operand_hardware : List Operand → List Hardware → Numbering → List ℕ → Option Hardware
operand_hardware os hs operands name = operands name >>= (λ k. slice_get os k) >>= (λ o. slice_get hs o.hardware)

abbrev pub keyword_of : Described → List ℕ → List ℕ → Option ℤ
keyword_of d operand word = operand_hardware d.operands d.hardware d.operand_numbers operand >>= λ h. keyword_number h word

-- What an operand is given: a number, a slot of the macro instruction, or a keyword. A slot goes before a keyword.
abbrev pub slot_or_keyword : Described → List (List ℕ) → List ℕ → List ℕ → Option Given
slot_or_keyword d slots operand word = option_or (option_map given.Slot (slot_number slots word)) (option_map given.Number (keyword_of d operand word))

abbrev pub given_as : Described → List (List ℕ) → List ℕ → Layer → Option Given
given_as d slots operand (Number n) = Some (given.Number n)
given_as d slots operand (Symbol word) = slot_or_keyword d slots operand word
given_as d slots operand _ = None

abbrev pub given_by : Described → List (List ℕ) → List ℕ → Option Form → Option Given
given_by d slots operand None = option_map given.Slot (slot_number slots operand)
given_by d slots operand (Some f) = given_as d slots operand (out-Form f)

-- The first item of an operand counts.
abbrev pub given_in : Described → List (List ℕ) → List (List ℕ × Option Form) → List ℕ → Option Given
given_in d slots [] operand = None
given_in d slots (x ∷ xs) operand = if same_text x.0 operand then given_by d slots operand x.1 else given_in d slots xs operand

-- What a slot of the emitted instruction is given. One that is given nothing, which is a fault, counts as given 0.
abbrev pub given_or_zero : Described → List (List ℕ) → List (List ℕ × Option Form) → List ℕ → Given
given_or_zero d slots xs operand = unwrap_or (given_in d slots xs operand) (given.Number (pos 0))

abbrev pub givens : Described → List (List ℕ) → MacroForm → Option Written → List Given
givens d slots form None = []
givens d slots form (Some w) = map (given_or_zero d slots (items_of form)) (slot_names d w)

abbrev pub macro_by : Described → MacroForm → List (List ℕ) → ℕ → MacroInsn
macro_by d form slots target = record {
  name = form.name;
  pieces = pieces_of slots (all_pieces form.syntax);
  operands = map (number_or_none d.operand_numbers) slots;
  target = short target;
  given = givens d slots form (slice_get d.written target);
}

-- A macro instruction whose emitted instruction isn't there is none of the machine's.
abbrev pub macro_of : Described → MacroForm → Option MacroInsn
macro_of d form = option_map (macro_by d form (macro_slots d.operand_numbers form)) (target_of d.written form)

abbrev pub macros_of : Described → List MacroInsn
macros_of d = filter_map (macro_of d) (members d.selection macro_in)
