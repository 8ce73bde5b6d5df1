-- The names in the form of a macro instruction, and what each stands for where it stands.
use Rattle.std.specs.Prelude.{ℕ, Bool, ◌||◌, if◌then◌else◌, List, [], ◌∷◌, map, filter, is_some, Option, Some, None, codes}
use Rattle.std.specs.List.{filter_map, flat_map}
use Rattle.cg_base.specs.declared.form.Form.{Form, out-Form}
use Rattle.cg_base.specs.declared.form.Form.TheOpen.{Symbol}
use Rattle.cg_base.specs.Parts.{Layer}
use Rattle.cg_base.specs.Texts.{same_text}
use Rattle.cg_attrs.specs.Clauses.{Clause}
use Rattle.cg_insn.specs.declared.form.MacroForm.{MacroForm}
use Rattle.cg_desc_elements.specs.declared.element.Element.{Element}
use Rattle.cg_desc_elements.specs.declared.kind.Namespace.TheVariants.{Insns}
use Rattle.cg_desc_references.specs.declared.finding.Finding.{Finding}
use Rattle.cg_desc_references.specs.declared.finding.Finding.TheVariants.{Fitting, OfAnotherKind, Undefined}
use Rattle.cg_desc_references.specs.declared.reference.Place.TheVariants as place
use Rattle.cg_desc_names.specs.Table.{Table}
use Rattle.cg_desc_references.specs.Finding.{found, is_defined}
use Rattle.cg_desc_insns.specs.Written.{all_pieces}
use Rattle.cg_desc_scope.specs.Described.{Described}
use Rattle.cg_desc_machine.specs.Instructions.{slot_of}
use Rattle.cg_desc_machine.specs.Macros.{macro_in, macro_slots, emitted_name, items_of, target_of, slot_or_keyword}
use Rattle.cg_desc_fault_report.specs.declared.saying.Placed.{Placed}
use Rattle.cg_desc_fault_report.specs.Saying.{only_text, placed}
use Rattle.cg_desc_fault_name.specs.declared.macros.Judged.{Judged}

abbrev pub judged : Finding → List ℕ → Judged
judged finding name = record { finding = finding; name = name }

-- A slot of the syntax, and an item: an operand of the machine that is plain, or a bare field's.
abbrev pub operand_finding : Described → List ℕ → Finding
operand_finding d name = if is_some (d.operand_numbers name) then Fitting else found d.selection.at place.Argument name

abbrev pub operand_judged : Described → List ℕ → Judged
operand_judged d name = judged (operand_finding d name) name

-- The emitted instruction: one that anyof operands were replaced in has its own name no more.
abbrev pub gone_or_other : Table → List ℕ → Finding
gone_or_other at name = if is_some (at Insns name) then Undefined else if is_defined at name then OfAnotherKind else Undefined

abbrev pub target_finding : Described → MacroForm → Finding
target_finding d form = if is_some (target_of d.written form) then Fitting else gone_or_other d.selection.at (emitted_name form)

abbrev pub target_judged : Described → MacroForm → Judged
target_judged d form = judged (target_finding d form) (emitted_name form)

-- What an operand is given, where that is a name: a slot of the syntax or a keyword.
abbrev pub value_finding : Described → List (List ℕ) → List ℕ → List ℕ → Finding
value_finding d slots operand word = if is_some (slot_or_keyword d slots operand word) then Fitting else Undefined

abbrev pub value_in : Described → List (List ℕ) → List ℕ → Layer → List Judged
value_in d slots operand (Symbol word) = judged (value_finding d slots operand word) word ∷ []
value_in d slots operand _ = []

abbrev pub value_of : Described → List (List ℕ) → List ℕ → Form → List Judged
value_of d slots operand f = if is_some (d.operand_numbers operand) then value_in d slots operand (out-Form f) else []

abbrev pub value_judged : Described → List (List ℕ) → List ℕ → Option Form → List Judged
value_judged d slots operand None = []
value_judged d slots operand (Some f) = value_of d slots operand f

abbrev pub item_judged : Described → List (List ℕ) → List ℕ × Option Form → List Judged
item_judged d slots x = operand_judged d x.0 ∷ value_judged d slots x.0 x.1

abbrev pub items_judged : Described → List (List ℕ) → List (List ℕ × Option Form) → List Judged
items_judged d slots xs = flat_map (item_judged d slots) xs

abbrev pub syntax_judged : Described → MacroForm → List Judged
syntax_judged d form = map (operand_judged d) (filter_map slot_of (all_pieces form.syntax))

abbrev pub emit_judged : Described → MacroForm → List Judged
emit_judged d form = target_judged d form ∷ items_judged d (macro_slots d.operand_numbers form) (items_of form)

abbrev pub is_expansion : List ℕ → Bool
is_expansion name = same_text (codes "expansions") name || same_text (codes "expansion") name

-- Those in a clause, from left to right.
abbrev pub names_of_macro : Described → MacroForm → List ℕ → List Judged
names_of_macro d form name =
    if same_text (codes "syntax") name then syntax_judged d form
    else if is_expansion name then emit_judged d form
    else []

abbrev pub names_by : Described → List ℕ → Option MacroForm → List Judged
names_by d name None = []
names_by d name (Some form) = names_of_macro d form name

abbrev pub macro_names : Described → Element → List ℕ → List Judged
macro_names d e name = names_by d name (macro_in e)

-- Those that are at fault, by a test on what they stand for. They go in their order.
abbrev pub of_macro_name : (Finding → Bool) → Judged → List Placed
of_macro_name fault x = if fault x.finding then placed [] (only_text x.name) ∷ [] else []

abbrev pub of_macro : (Finding → Bool) → List Judged → List Placed
of_macro fault xs = flat_map (of_macro_name fault) xs
