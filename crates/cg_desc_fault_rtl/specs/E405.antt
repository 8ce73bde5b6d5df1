-- E405: a bare symbol in an expression names nothing at all. Those of derived and anyof operands have been refused by then.
use Rattle.std.specs.Prelude.{Bool, if◌then◌else◌, List, [], ◌++◌, Option, Some, None, codes}
use Rattle.std.specs.List.{flat_map}
use Rattle.cg_base.specs.declared.form.Form.{Form}
use Rattle.cg_base.specs.Texts.{same_text}
use Rattle.cg_attrs.specs.Clauses.{Clause}
use Rattle.cg_desc_elements.specs.declared.element.Element.{Element}
use Rattle.cg_desc_elements.specs.declared.element.Element.TheVariants as element
use Rattle.cg_desc_elements.specs.Elements.{kind_of}
use Rattle.cg_model.specs.declared.machine.Machine.{Machine}
use Rattle.cg_rtl_resolve.specs.declared.scope.Scope.{Scope}
use Rattle.cg_desc_references.specs.Clauses.{clauses_of}
use Rattle.cg_desc_choices.specs.declared.written.Written.{Written}
use Rattle.cg_desc_scope.specs.Described.{Described}
use Rattle.cg_desc_fault_report.specs.declared.saying.Saying.{Saying}
use Rattle.cg_desc_fault_report.specs.Saying.{only_text, earliest_said}
use Rattle.cg_rtl_uses.specs.declared.uses.Use.{Use}
use Rattle.cg_rtl_uses.specs.declared.uses.Use.TheVariants as stands
use Rattle.cg_desc_fault_rtl.specs.Asking.{asks_meaning}
use Rattle.cg_desc_fault_rtl.specs.Expressions.{expressions}
use Rattle.cg_desc_fault_rtl.specs.Judging.{Says, of_expressions}

-- Of an expression as it is with choices put in.
abbrev pub of_what : Use → Option Saying
of_what (stands.Unknown name) = Some (only_text name)
of_what _ = None

unfoldable pub unknown : Says
unknown x what = if asks_meaning x.asking.asked then of_what what else None

abbrev pub in_clause : Described → Scope → Machine → List Written → Element → Clause → List Saying
in_clause d scope m ws e c = earliest_said (of_expressions unknown (expressions d scope m ws e c))

-- Assertions go before what the instruction does.
abbrev pub is_semantics : Clause → Bool
is_semantics c = same_text (codes "semantics") c.name

abbrev pub in_assertion : Described → Scope → Machine → List Written → Element → Clause → List Saying
in_assertion d scope m ws e c = if is_semantics c then [] else in_clause d scope m ws e c

abbrev pub in_semantics : Described → Scope → Machine → List Written → Element → Clause → List Saying
in_semantics d scope m ws e c = if is_semantics c then in_clause d scope m ws e c else []

-- A derived operand is judged where it is put in.
abbrev pub by_clauses : Described → Scope → Machine → List Written → Element → List Clause → List Saying
by_clauses d scope m ws (element.Operand form) cs = []
by_clauses d scope m ws e cs = flat_map (in_assertion d scope m ws e) cs ++ flat_map (in_semantics d scope m ws e) cs

abbrev pub e405 : Described → Scope → Machine → Element → Form → List Written → List Saying
e405 d scope m e f ws = by_clauses d scope m ws e (clauses_of (kind_of e) f)
