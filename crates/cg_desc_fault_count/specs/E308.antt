-- E308: a count is passed that a machine, or an element of it, may have. Counts over the machine go first, and then a form's own, clause
-- by clause.
use Rattle.std.specs.Prelude.{ℕ, ◌+◌, Bool, ◌==◌, ◌&&◌, pos, if◌then◌else◌, List, [], ◌∷◌, ◌++◌, map, length, unsigned_abs, is_some, Option, Some, None, codes}
use Rattle.std.specs.List.{filter_map, flat_map}
use Rattle.std.specs.Option.{unwrap_or}
use Rattle.cg_base.specs.declared.form.Form.{Form}
use Rattle.cg_base.specs.Texts.{same_text}
use Rattle.cg_attrs.specs.Clauses.{Clause}
use Rattle.cg_attrs.specs.declared.frame.IsaForm.{IsaForm}
use Rattle.cg_attrs.specs.declared.frame.MachForm.{MachForm}
use Rattle.cg_attrs.specs.declared.frame.ModelForm.{ModelForm}
use Rattle.cg_attrs.specs.declared.frame.Frame.TheVariants as frame
use Rattle.cg_hw.specs.declared.form.HardwareForm.{HardwareForm}
use Rattle.cg_operand.specs.declared.form.OperandForm.TheVariants as operand
use Rattle.cg_insn.specs.declared.form.InstructionForm.{InstructionForm}
use Rattle.cg_insn.specs.declared.form.MacroForm.{MacroForm}
use Rattle.cg_insn.specs.declared.form.InsnForm.TheVariants as insn
use Rattle.cg_insn.specs.declared.syntax.NamedPiece.TheVariants as named
use Rattle.cg_desc_elements.specs.declared.element.Element.{Element}
use Rattle.cg_desc_elements.specs.declared.element.Element.TheVariants as element
use Rattle.cg_desc_elements.specs.Elements.{kind_of, name_of}
use Rattle.cg_desc_names.specs.Table.{gives_isa}
use Rattle.cg_model.specs.declared.machine.Machine.{Machine}
use Rattle.cg_model.specs.declared.hardware.NamedValue.{NamedValue}
use Rattle.cg_model.specs.Matching.{length_of}
use Rattle.cg_model.specs.Words.{named_values}
use Rattle.cg_model_faults.specs.Finding.{Faults}
use Rattle.cg_model_faults.specs.E308.{passing, too_many, long_texts, of_syntax}
use Rattle.cg_rtl_resolve.specs.declared.scope.Scope.{Scope}
use Rattle.cg_desc_references.specs.Clauses.{clauses_of}
use Rattle.cg_desc_choices.specs.declared.written.Written.{Written}
use Rattle.cg_desc_choices.specs.declared.written.WrittenPiece.{WrittenPiece}
use Rattle.cg_desc_insns.specs.Written.{all_pieces}
use Rattle.cg_desc_data.specs.Selecting.{Selection}
use Rattle.cg_desc_data.specs.Hardware.{words}
use Rattle.cg_desc_scope.specs.Described.{Described}
use Rattle.cg_desc_scope.specs.Timing.{cycles_of}
use Rattle.cg_desc_machine.specs.Instructions.{slot_names, pieces_of, insn_by}
use Rattle.cg_desc_machine.specs.Macros.{macro_slots, target_of}
use Rattle.cg_desc_fault_report.specs.declared.saying.Saying.{Saying}
use Rattle.cg_desc_fault_report.specs.Saying.{faults_said}
use Rattle.cg_desc_fault_count.specs.declared.counts.Counts.{Counts}
use Rattle.cg_desc_fault_count.specs.Counts.{texts_of}

-- What this form adds to the counts of those before it.
abbrev pub passed : ℕ → ℕ → ℕ → Faults
passed limit before own = passing limit before (before + own)

abbrev pub of_elements : Counts → Counts → Faults
of_elements before own =
    passed 1024 before.fields own.fields ++ passed 1024 before.multis own.multis ++ passed 256 before.hardware own.hardware ++ passed 65536 before.cells own.cells

abbrev pub of_others : Counts → Counts → Faults
of_others before own =
    passed 1024 before.operands own.operands ++ passed 1024 before.macros own.macros ++ passed 1000000 before.nodes own.nodes ++ passed 1000000 before.texts own.texts

abbrev pub of_counts : Counts → Counts → Faults
of_counts before own = of_elements before own ++ of_others before own

-- The texts that a machine keeps of an element: its error texts, its name, words and literals.
abbrev pub word_text : NamedValue → List ℕ
word_text w = w.word

abbrev pub literal_of : WrittenPiece → Option (List ℕ)
literal_of p = elim p.piece [ named.Slot name ↦ None | named.Literal text ↦ Some text ]

abbrev pub literals : List WrittenPiece → List (List ℕ)
literals ps = filter_map literal_of ps

abbrev pub insn_texts : Written → List (List ℕ)
insn_texts w = w.name ∷ literals w.pieces

abbrev pub hardware_texts : Described → HardwareForm → List (List ℕ)
hardware_texts d form = form.name ∷ map word_text (named_values (words d.selection form))

abbrev pub macro_texts : MacroForm → List (List ℕ)
macro_texts form = form.name ∷ literals (all_pieces form.syntax)

abbrev pub mach_texts : Described → ℕ → MachForm → List (List ℕ)
mach_texts d form mach = if form == d.selection.form then mach.name ∷ [] else []

abbrev pub kept_texts : Described → ℕ → List Written → Element → List (List ℕ)
kept_texts d form ws (element.Field f) = name_of (element.Field f) ∷ []
kept_texts d form ws (element.Hardware f) = hardware_texts d f
kept_texts d form ws (element.Operand (operand.Plain f)) = f.name ∷ []
kept_texts d form ws (element.Insn (insn.Instruction f)) = flat_map insn_texts ws
kept_texts d form ws (element.Insn (insn.Macro f)) = macro_texts f
kept_texts d form ws (element.Frame (frame.Mach f)) = mach_texts d form f
kept_texts d form ws _ = []

abbrev pub error_texts : Described → List Written → Element → Form → List (List ℕ)
error_texts d ws e f = texts_of d e f ws

abbrev pub all_texts : Described → ℕ → List Written → Element → Form → List (List ℕ)
all_texts d form ws e f = error_texts d ws e f ++ kept_texts d form ws e

abbrev pub of_texts : Described → ℕ → List Written → Element → Form → Faults
of_texts d form ws e f = long_texts (all_texts d form ws e f)

-- The words of hardware, at the clause that gives them.
abbrev pub gives_words : HardwareForm → List ℕ → Bool
gives_words form name = if is_some form.indices then same_text name (codes "indices") else same_text name (codes "values")

abbrev pub of_words : Selection → HardwareForm → List ℕ → Faults
of_words s form name = if gives_words form name then too_many 1024 (length (named_values (words s form))) else []

-- The instructions of a bundle, where the selected instruction set has a bundle field.
abbrev pub of_bundle : IsaForm → List ℕ → Faults
of_bundle form name =
    if is_some form.bundle_field && same_text (codes "parallel-insns") name then too_many 8 (unsigned_abs (unwrap_or form.parallel_insns (pos 1))) else []

abbrev pub of_isa : Selection → ℕ → IsaForm → List ℕ → Faults
of_isa s number form name = if gives_isa s.at s.isa number then of_bundle form name else []

-- The pieces, slots, bytes and cycles of an instruction. How many bytes it has isn't known where sizes aren't.
abbrev pub of_pieces : Described → Written → Faults
of_pieces d w = too_many 64 (length (pieces_of (slot_names d w) w.pieces))

abbrev pub of_bytes : Described → Scope → Machine → InstructionForm → Written → Faults
of_bytes d scope m form w = if d.framing.is_sized then too_many 16 (length_of m (insn_by d scope w form)) else []

abbrev pub of_slots : Described → Scope → Machine → InstructionForm → Written → Faults
of_slots d scope m form w = too_many 16 (length (slot_names d w)) ++ of_bytes d scope m form w

abbrev pub of_time : Option ModelForm → InstructionForm → Faults
of_time model form = too_many 67107840 (cycles_of model form)

-- The instructions of a form take equally long.
abbrev pub of_cycles : Described → InstructionForm → List Written → Faults
of_cycles d form [] = []
of_cycles d form (w ∷ ws) = of_time d.model form

abbrev pub of_insn : Described → Scope → Machine → InstructionForm → List Written → List ℕ → Faults
of_insn d scope m form ws name =
    if same_text (codes "syntax") name then flat_map (of_pieces d) ws
    else if same_text (codes "format") name then flat_map (of_slots d scope m form) ws
    else if same_text (codes "timing") name then of_cycles d form ws
    else []

-- The pieces and slots of a macro instruction.
abbrev pub of_shape : Described → MacroForm → List (List ℕ) → Faults
of_shape d form slots = of_syntax (length (pieces_of slots (all_pieces form.syntax))) (length slots)

abbrev pub of_macro_syntax : Described → MacroForm → Faults
of_macro_syntax d form = of_shape d form (macro_slots d.operand_numbers form)

abbrev pub of_macro : Described → MacroForm → List ℕ → Faults
of_macro d form name = if is_some (target_of d.written form) && same_text (codes "syntax") name then of_macro_syntax d form else []

abbrev pub in_clause : Described → Scope → Machine → ℕ → Element → List Written → Clause → Faults
in_clause d scope m form (element.Hardware f) ws c = of_words d.selection f c.name
in_clause d scope m form (element.Frame (frame.Isa f)) ws c = of_isa d.selection form f c.name
in_clause d scope m form (element.Insn (insn.Instruction f)) ws c = of_insn d scope m f ws c.name
in_clause d scope m form (element.Insn (insn.Macro f)) ws c = of_macro d f c.name
in_clause d scope m form _ ws c = []

abbrev pub of_clauses : Described → Scope → Machine → ℕ → Element → List Written → List Clause → Faults
of_clauses d scope m form e ws cs = flat_map (in_clause d scope m form e ws) cs

abbrev pub of_own : Described → Scope → Machine → ℕ → Element → Form → List Written → Faults
of_own d scope m form e f ws = of_texts d form ws e f ++ of_clauses d scope m form e ws (clauses_of (kind_of e) f)

abbrev pub all_of : Described → Scope → Machine → Counts → Counts → ℕ → Element → Form → List Written → Faults
all_of d scope m before own form e f ws = of_counts before own ++ of_own d scope m form e f ws

abbrev pub e308 : Described → Scope → Machine → Counts → Counts → ℕ → Element → Form → List Written → List Saying
e308 d scope m before own form e f ws = faults_said m [] (all_of d scope m before own form e f ws)
