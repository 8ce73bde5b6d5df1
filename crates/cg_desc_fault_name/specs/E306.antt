-- E306: a name stands for nothing that this machine has; or it isn't in the format where it has to be there.
use Rattle.std.specs.Prelude.{ℕ, ℤ, Bool, not, ◌&&◌, if◌then◌else◌, List, [], ◌++◌, Option, Some, None}
use Rattle.std.specs.List.{flat_map}
use Rattle.std.specs.Option.{option_map}
use Rattle.cg_base.specs.declared.form.Form.{Form}
use Rattle.cg_base.specs.declared.mode.Mode.{Mode}
use Rattle.cg_base.specs.Refusing.{first}
use Rattle.cg_base.specs.Texts.{is_among}
use Rattle.cg_attrs.specs.Clauses.{Clause}
use Rattle.cg_desc_elements.specs.declared.element.Element.{Element}
use Rattle.cg_desc_elements.specs.Elements.{kind_of}
use Rattle.cg_model.specs.declared.machine.Machine.{Machine}
use Rattle.cg_model.specs.declared.rtl.Op.{Op}
use Rattle.cg_model_faults.specs.E306.{Nameable, stray_at}
use Rattle.cg_rtl_resolve.specs.declared.scope.Scope.{Scope}
use Rattle.cg_desc_names.specs.Table.{Table}
use Rattle.cg_desc_references.specs.Clauses.{clauses_of}
use Rattle.cg_desc_references.specs.E306.{is_nothing, is_undefined}
use Rattle.cg_desc_choices.specs.declared.written.Written.{Written}
use Rattle.cg_desc_scope.specs.Described.{Described}
use Rattle.cg_desc_fault_report.specs.declared.saying.Saying.{Saying}
use Rattle.cg_desc_fault_report.specs.declared.saying.Placed.{Placed}
use Rattle.cg_desc_fault_report.specs.Saying.{only_text, fault_said, earliest_said}
use Rattle.cg_rtl_uses.specs.declared.uses.Use.{Use}
use Rattle.cg_rtl_uses.specs.declared.uses.Use.TheVariants as stands
use Rattle.cg_desc_fault_rtl.specs.declared.asking.Expression.{Expression}
use Rattle.cg_desc_fault_rtl.specs.Asking.{asks_meaning, asks_operands, nameable, is_coding, no_operand}
use Rattle.cg_desc_fault_rtl.specs.Expressions.{expressions}
use Rattle.cg_desc_fault_rtl.specs.Judging.{Says, of_expressions}
use Rattle.cg_desc_fault_rtl.specs.E315.{is_anyof}
use Rattle.cg_desc_fault_name.specs.Names.{placed_names, of_names}
use Rattle.cg_desc_fault_name.specs.MacroNames.{macro_names, of_macro}
use Rattle.cg_desc_fault_name.specs.E304.{is_selected}

-- An anyof operand that isn't in the format. In a rule of a field or a multi field no operand may stand at all: that is E315.
abbrev pub is_stray_anyof : Table → Expression → List ℕ → Bool
is_stray_anyof at x name = asks_operands x.asking.asked && is_anyof at name && not (is_among x.asking.anyofs name) && not (is_coding x.purpose)

abbrev pub of_symbol : Table → Expression → Option (List ℕ) → Option Saying
of_symbol at x None = None
of_symbol at x (Some name) = if is_stray_anyof at x name then Some (only_text name) else None

-- Of what stands in an expression: a field, or an operand that has one, that isn't in the format, where that is asked; and a name that
-- stands for nothing, where it has to be of a kind. Names are asked for once choices are put in.
abbrev pub of_named : Machine → Option Nameable → Op → Option Mode → ℤ → Option Saying
of_named m None o mode n = None
of_named m (Some may) o mode n = option_map (fault_said m []) (first (stray_at m may o mode n))

unfoldable pub missing : Table → Machine → Says
missing at m x (stands.Node o mode n) = if asks_meaning x.asking.asked then of_named m (nameable m x.asking.naming) o mode n else None
missing at m x (stands.Undefined name) = if asks_meaning x.asking.asked then Some (only_text name) else None
missing at m x what = of_symbol at x (no_operand what)

-- Of a clause of the form of this number: what stands in its expressions, and its names.
abbrev pub all_of : Described → Scope → Machine → ℕ → List Written → Element → Clause → List Placed
all_of d scope m form ws e c =
    of_expressions (missing d.selection.at m) (expressions d scope m ws e c)
    ++ of_names (is_undefined d.selection.at d.selection.elements) (placed_names (is_selected d form) (kind_of e) c)
    ++ of_macro is_nothing (macro_names d e c.name)

abbrev pub in_clause : Described → Scope → Machine → ℕ → List Written → Element → Clause → List Saying
in_clause d scope m form ws e c = earliest_said (all_of d scope m form ws e c)

-- In the form of this number: of each clause the earliest.
abbrev pub e306 : Described → Scope → Machine → ℕ → Element → Form → List Written → List Saying
e306 d scope m form e f ws = flat_map (in_clause d scope m form ws e) (clauses_of (kind_of e) f)
