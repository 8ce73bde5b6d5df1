-- The expressions of a form, clause by clause, and what is asked of each.
use Rattle.std.specs.Prelude.{ℕ, ◌+◌, if◌then◌else◌, List, [], ◌∷◌, ◌++◌, map, Option, Some, None, codes}
use Rattle.std.specs.List.{filter_map, flat_map}
use Rattle.std.specs.Option.{option_map, unwrap_or}
use Rattle.cg_base.specs.declared.form.Form.{Form}
use Rattle.cg_base.specs.Parts.{◌>>=◌, elements_of, only}
use Rattle.cg_base.specs.Texts.{same_text}
use Rattle.cg_attrs.specs.Clauses.{Clause}
use Rattle.cg_ifield.specs.declared.form.PlainForm.{PlainForm}
use Rattle.cg_ifield.specs.declared.form.MultiForm.{MultiForm}
use Rattle.cg_ifield.specs.declared.form.FieldForm.TheVariants as field
use Rattle.cg_ifield.specs.Sets.{set_of, sets_of}
use Rattle.cg_hw.specs.declared.form.HardwareForm.{HardwareForm}
use Rattle.cg_hw.specs.Rules.{expression}
use Rattle.cg_operand.specs.declared.form.OperandForm.TheVariants as operand
use Rattle.cg_insn.specs.declared.form.InstructionForm.{InstructionForm}
use Rattle.cg_insn.specs.declared.form.InsnForm.TheVariants as insn
use Rattle.cg_desc_elements.specs.declared.element.Element.{Element}
use Rattle.cg_desc_elements.specs.declared.element.Element.TheVariants as element
use Rattle.cg_model.specs.declared.field.Multi.{Multi}
use Rattle.cg_model.specs.declared.machine.Machine.{Machine}
use Rattle.cg_rtl_resolve.specs.declared.scope.Rule.TheVariants as rule
use Rattle.cg_rtl_resolve.specs.declared.scope.Scope.{Scope}
use Rattle.cg_desc_references.specs.declared.reference.Place.TheVariants as place
use Rattle.cg_desc_choices.specs.declared.written.Anyof.{Anyof}
use Rattle.cg_desc_choices.specs.declared.written.Written.{Written}
use Rattle.cg_desc_choices.specs.declared.written.WrittenAssertion.{WrittenAssertion}
use Rattle.cg_desc_insns.specs.Choices.{anyofs_of}
use Rattle.cg_desc_insns.specs.Parts.{parts_of}
use Rattle.cg_desc_insns.specs.Written.{expression_in}
use Rattle.cg_desc_data.specs.Extents.{extent_of}
use Rattle.cg_desc_data.specs.Multis.{multi_of}
use Rattle.cg_desc_data.specs.Hardware.{hardware_of}
use Rattle.cg_desc_scope.specs.Described.{Described, scope_in}
use Rattle.cg_desc_machine.specs.Rules.{insert_scope}
use Rattle.cg_desc_machine.specs.Instructions as instructions
use Rattle.cg_desc_fault_rtl.specs.declared.asking.Asked.{Asked}
use Rattle.cg_desc_fault_rtl.specs.declared.asking.Asked.TheVariants.{All, PutIn, AsWritten}
use Rattle.cg_desc_fault_rtl.specs.declared.asking.Naming.{Naming}
use Rattle.cg_desc_fault_rtl.specs.declared.asking.Naming.TheVariants as naming
use Rattle.cg_desc_fault_rtl.specs.declared.asking.Asking.{Asking}
use Rattle.cg_desc_fault_rtl.specs.declared.asking.Expression.{Expression}
use Rattle.cg_desc_fault_rtl.specs.Asking.{expression_of, plain_asking}

-- One of an element of this name that stands alone in its clause, where it is there.
abbrev pub plain_where : Machine → List ℕ → Scope → Naming → Option Form → List Expression
plain_where m own scope n None = []
plain_where m own scope n (Some f) = expression_of m scope f (plain_asking own n) ∷ []

-- Of a field: `encode` and `decode`, each one list of the formals and the expression.
unfoldable pub coding_in : Clause → Option Form
coding_in c = only c.content >>= elements_of >>= expression

abbrev pub in_field : Described → Scope → Machine → PlainForm → Clause → List Expression
in_field d scope m form c =
    let own = Some (extent_of d.framing form).mode in
    if same_text (codes "encode") c.name then plain_where m form.name (scope_in scope rule.Encode own) naming.Unasked (coding_in c)
    else if same_text (codes "decode") c.name then plain_where m form.name (scope_in scope rule.Decode own) naming.Unasked (coding_in c)
    else []

-- Of a multi field: one for each field that is set, in the order in which they are written.
abbrev pub set_asking : List ℕ → List ℕ → ℕ → Asking
set_asking own subs k = record (plain_asking own naming.Unasked) { at = k ∷ []; subs = subs }

abbrev pub sets_from : Machine → List ℕ → Scope → List ℕ → ℕ → List (List ℕ × Form) → List Expression
sets_from m own scope subs k [] = []
sets_from m own scope subs k (x ∷ xs) = expression_of m scope x.1 (set_asking own subs k) ∷ sets_from m own scope subs (k + 1) xs

abbrev pub sets_in : Clause → List (List ℕ × Form)
sets_in c = filter_map set_of (unwrap_or (sets_of c.content) [])

abbrev pub in_multi : Scope → Machine → Multi → Clause → List Expression
in_multi scope m x c =
    if same_text (codes "insert") c.name then sets_from m x.name (insert_scope scope x) [] 0 (sets_in c)
    else if same_text (codes "extract") c.name then sets_from m x.name (scope_in scope rule.Extract None) x.subs 0 (sets_in c)
    else []

abbrev pub multi_form : Described → Scope → Machine → MultiForm → Clause → List Expression
multi_form d scope m form c = in_multi scope m (multi_of d.framing d.numbers form) c

-- Of hardware.
abbrev pub in_hardware : Described → Scope → Machine → HardwareForm → Clause → List Expression
in_hardware d scope m form c =
    if same_text (codes "get") c.name then plain_where m form.name (scope_in scope rule.Get None) naming.Hardware (expression c.content)
    else if same_text (codes "set") c.name then plain_where m form.name (scope_in scope rule.Set (Some (hardware_of d.selection d.framing form).mode)) naming.Hardware (expression c.content)
    else []

-- Of a derived operand: what it may name of fields is asked where it is put in.
abbrev pub in_derived : Scope → Machine → List ℕ → Clause → List Expression
in_derived scope m own c =
    if same_text (codes "getter") c.name then plain_where m own scope naming.Unasked (only c.content)
    else if same_text (codes "setter") c.name then plain_where m own scope naming.Unasked (only c.content)
    else if same_text (codes "ifield-assertion") c.name then plain_where m own (scope_in scope rule.Assertion None) naming.Unasked (only c.content)
    else []

-- Of an instruction. The anyof operands of its format:
abbrev pub anyof_name : Anyof → List ℕ
anyof_name a = a.operand

abbrev pub anyofs_in : Described → InstructionForm → List (List ℕ)
anyofs_in d form = map anyof_name (anyofs_of d.selection.at d.selection.elements (parts_of d.selection.at d.selection.elements place.Part form.format))

abbrev pub assertion_scope : Scope → Scope
assertion_scope scope = scope_in scope rule.Assertion None

abbrev pub semantics_asking : Described → Asked → Written → Asking
semantics_asking d asked w = record (plain_asking w.name (naming.Semantics (instructions.parts_of d w))) { asked = asked }

abbrev pub assertion_asking : Described → Asked → Written → Asking
assertion_asking d asked w = record (plain_asking w.name (naming.Assertion (instructions.parts_of d w))) { asked = asked }

abbrev pub written_asking : List ℕ → List (List ℕ) → Asking
written_asking own anyofs = record (plain_asking own naming.Unasked) { anyofs = anyofs; asked = AsWritten }

-- Its own expression as it is written, and as it is with each way to choose. Where nothing is chosen, these are one.
abbrev pub as_written : Machine → List ℕ → Scope → List (List ℕ) → Form → List Expression
as_written m own scope anyofs f = expression_of m scope f (written_asking own anyofs) ∷ []

abbrev pub with_each : (Asked → Written → List Expression) → Machine → List ℕ → Scope → List (List ℕ) → Option Form → List Written → List Expression
with_each given m own scope [] f ws = flat_map (given All) ws
with_each given m own scope anyofs None ws = []
with_each given m own scope anyofs (Some f) ws = as_written m own scope anyofs f ++ flat_map (given PutIn) ws

abbrev pub one_semantics : Described → Scope → Machine → Asked → Written → List Expression
one_semantics d scope m asked w = expression_of m scope w.semantics (semantics_asking d asked w) ∷ []

abbrev pub in_semantics : Described → Scope → Machine → InstructionForm → List Written → List Expression
in_semantics d scope m form ws = with_each (one_semantics d scope m) m form.name scope (anyofs_in d form) (Some (expression_in form.semantics)) ws

-- Of the assertions of an instruction its own stands in a clause of its own, and each that a choice puts in where its anyof operand stands in
-- the format. They are read in a scope for assertions.
abbrev pub own_where : Described → Scope → Machine → Asked → Written → Option Form → List Expression
own_where d scope m asked w None = []
own_where d scope m asked w (Some f) = expression_of m scope f (assertion_asking d asked w) ∷ []

abbrev pub own_assertion : Described → Scope → Machine → Asked → Written → List Expression
own_assertion d scope m asked w = own_where d scope m asked w w.assertion

abbrev pub assertion_within : Described → Scope → Machine → InstructionForm → List Written → List Expression
assertion_within d scope m form ws =
    with_each (own_assertion d scope m) m form.name scope (anyofs_in d form) (option_map expression_in form.ifield_assertion) ws

abbrev pub choice_asking : Described → Written → WrittenAssertion → Asking
choice_asking d w a = record (assertion_asking d PutIn w) { at = (a.spot.item + 1) ∷ [] }

abbrev pub choice_assertion : Described → Scope → Machine → Written → WrittenAssertion → Expression
choice_assertion d scope m w a = expression_of m scope a.form (choice_asking d w a)

abbrev pub choice_assertions : Described → Scope → Machine → Written → List Expression
choice_assertions d scope m w = map (choice_assertion d scope m w) w.choice_assertions

abbrev pub in_instruction : Described → Scope → Machine → InstructionForm → List Written → Clause → List Expression
in_instruction d scope m form ws c =
    if same_text (codes "semantics") c.name then in_semantics d scope m form ws
    else if same_text (codes "ifield-assertion") c.name then assertion_within d (assertion_scope scope) m form ws
    else if same_text (codes "format") c.name then flat_map (choice_assertions d (assertion_scope scope) m) ws
    else []

-- The expressions in a clause of a form that gives this element, with the instructions that it becomes.
abbrev pub expressions : Described → Scope → Machine → List Written → Element → Clause → List Expression
expressions d scope m ws (element.Field (field.Plain form)) c = in_field d scope m form c
expressions d scope m ws (element.Field (field.Multi form)) c = multi_form d scope m form c
expressions d scope m ws (element.Hardware form) c = in_hardware d scope m form c
expressions d scope m ws (element.Operand (operand.Derived form)) c = in_derived scope m form.name c
expressions d scope m ws (element.Insn (insn.Instruction form)) c = in_instruction d scope m form ws c
expressions d scope m ws _ c = []
