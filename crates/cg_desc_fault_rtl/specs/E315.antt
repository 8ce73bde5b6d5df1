-- E315: a rule or an assertion isn't pure, or an assertion names over 8 bits, a field with a rule or a multi field.
use Rattle.std.specs.Prelude.{ℕ, Bool, true, false, ◌&&◌, is_some, if◌then◌else◌, List, [], ◌∷◌, ◌++◌, Option, Some, None, codes}
use Rattle.std.specs.List.{flat_map}
use Rattle.std.specs.Option.{option_map}
use Rattle.cg_base.specs.declared.form.Form.{Form}
use Rattle.cg_base.specs.Refusing.{first}
use Rattle.cg_base.specs.Texts.{same_text, passes}
use Rattle.cg_attrs.specs.Clauses.{Clause}
use Rattle.cg_insn.specs.declared.form.InstructionForm.{InstructionForm}
use Rattle.cg_insn.specs.declared.form.InsnForm.TheVariants as insn
use Rattle.cg_desc_elements.specs.declared.element.Element.{Element}
use Rattle.cg_desc_elements.specs.declared.element.Element.TheVariants as element
use Rattle.cg_desc_elements.specs.declared.kind.Kind.{Kind}
use Rattle.cg_desc_elements.specs.declared.kind.Kind.TheVariants.{Anyof}
use Rattle.cg_desc_elements.specs.declared.kind.Namespace.TheVariants.{Operands}
use Rattle.cg_desc_elements.specs.Elements.{kind_of}
use Rattle.cg_model_faults.specs.declared.fault.Purpose.{Purpose}
use Rattle.cg_model_faults.specs.declared.fault.Purpose.TheVariants as purpose
use Rattle.cg_model.specs.declared.machine.Machine.{Machine}
use Rattle.cg_model_faults.specs.E315.{impure_at, names_many}
use Rattle.cg_rtl_resolve.specs.declared.scope.Scope.{Scope}
use Rattle.cg_desc_names.specs.Table.{Table}
use Rattle.cg_desc_references.specs.Finding.{stands_as}
use Rattle.cg_desc_references.specs.Clauses.{clauses_of}
use Rattle.cg_desc_choices.specs.declared.written.Written.{Written}
use Rattle.cg_desc_choices.specs.Choices.{all_assertions}
use Rattle.cg_desc_scope.specs.Described.{Described}
use Rattle.cg_desc_machine.specs.Instructions.{assertion_of}
use Rattle.cg_desc_fault_report.specs.declared.saying.Saying.{Saying}
use Rattle.cg_desc_fault_report.specs.declared.saying.Placed.{Placed}
use Rattle.cg_desc_fault_report.specs.Saying.{only_text, fault_said, placed, earliest_said}
use Rattle.cg_rtl_uses.specs.declared.uses.Use.{Use}
use Rattle.cg_rtl_uses.specs.declared.uses.Use.TheVariants as stands
use Rattle.cg_desc_fault_rtl.specs.declared.asking.Expression.{Expression}
use Rattle.cg_desc_fault_rtl.specs.Asking.{asks_meaning, is_coding, no_operand}
use Rattle.cg_desc_fault_rtl.specs.Expressions.{expressions}
use Rattle.cg_desc_fault_rtl.specs.Judging.{Says, of_expression}

-- The rules that have to be pure. Those of get and set rules and of semantics may be impure.
abbrev pub has_to_be_pure : Purpose → Bool
has_to_be_pure purpose.Assertion = true
has_to_be_pure p = is_coding p

-- An anyof operand.
abbrev pub is_anyof_kind : Kind → Bool
is_anyof_kind Anyof = true
is_anyof_kind _ = false

abbrev pub is_anyof : Table → List ℕ → Bool
is_anyof at name = stands_as is_anyof_kind (at Operands name)

-- Of what stands in an expression: what isn't pure, and in a rule of a field or a multi field an anyof operand.
abbrev pub of_symbol : Table → Expression → Option (List ℕ) → Option Saying
of_symbol at x None = None
of_symbol at x (Some name) = if is_coding x.purpose && is_anyof at name then Some (only_text x.asking.own) else None

abbrev pub of_what : Table → Machine → Expression → Use → Option Saying
of_what at m x (stands.Node o mode n) = option_map (fault_said m x.asking.own) (first (impure_at m x.purpose x.asking.subs o mode n))
of_what at m x what = of_symbol at x (no_operand what)

abbrev pub is_asked : Expression → Bool
is_asked x = has_to_be_pure x.purpose && asks_meaning x.asking.asked

unfoldable pub impurity : Table → Machine → Says
impurity at m x what = if is_asked x then of_what at m x what else None

-- An assertion that names too many bits stands where it begins.
abbrev pub of_bits : Expression → List Placed
of_bits x = if x.is_wide then placed x.asking.at (only_text x.asking.own) ∷ [] else []

abbrev pub of_one : Table → Machine → Expression → List Placed
of_one at m x = of_bits x ++ of_expression (impurity at m) x

-- The assertions of an instruction together, in the clause that gives the first of them: its own, or else its format.
abbrev pub together_too_many : Scope → Machine → Written → Bool
together_too_many scope m w = passes (names_many m purpose.Assertion) (assertion_of scope (all_assertions w))

abbrev pub of_assertions : Scope → Machine → Written → List Placed
of_assertions scope m w = if together_too_many scope m w then placed [] (only_text w.name) ∷ [] else []

abbrev pub gives_first : InstructionForm → List ℕ → Bool
gives_first form name = if is_some form.ifield_assertion then same_text (codes "ifield-assertion") name else same_text (codes "format") name

abbrev pub all_together : Scope → Machine → List Written → Element → Clause → List Placed
all_together scope m ws (element.Insn (insn.Instruction form)) c = if gives_first form c.name then flat_map (of_assertions scope m) ws else []
all_together scope m ws _ c = []

abbrev pub all_of : Described → Scope → Machine → List Written → Element → Clause → List Placed
all_of d scope m ws e c = flat_map (of_one d.selection.at m) (expressions d scope m ws e c) ++ all_together scope m ws e c

abbrev pub in_clause : Described → Scope → Machine → List Written → Element → Clause → List Saying
in_clause d scope m ws e c = earliest_said (all_of d scope m ws e c)

-- Of each clause the earliest. A derived operand is judged where it is put in.
abbrev pub by_element : Described → Scope → Machine → List Written → Element → List Clause → List Saying
by_element d scope m ws (element.Operand form) cs = []
by_element d scope m ws e cs = flat_map (in_clause d scope m ws e) cs

abbrev pub e315 : Described → Scope → Machine → Element → Form → List Written → List Saying
e315 d scope m e f ws = by_element d scope m ws e (clauses_of (kind_of e) f)
