-- E304: a name stands for something of another kind than its place takes; what `extern-keyword` names has a word that is none of
-- hardware's; or, where a choice is put in, literals that meet are no literal, or an expression has a wrong shape.
use Rattle.std.specs.Prelude.{ℕ, Bool, true, false, ◌&&◌, if◌then◌else◌, List, [], ◌++◌, Option, Some, None}
use Rattle.std.specs.List.{flat_map}
use Rattle.std.specs.Option.{option_map}
use Rattle.cg_base.specs.declared.form.Form.{Form}
use Rattle.cg_base.specs.Refusing.{first}
use Rattle.cg_attrs.specs.Clauses.{Clause}
use Rattle.cg_desc_elements.specs.declared.element.Element.{Element}
use Rattle.cg_desc_elements.specs.declared.kind.Kind.{Kind}
use Rattle.cg_desc_elements.specs.declared.kind.Kind.TheVariants.{Derived}
use Rattle.cg_desc_elements.specs.declared.kind.Namespace.TheVariants.{Operands}
use Rattle.cg_desc_elements.specs.Elements.{kind_of}
use Rattle.cg_model.specs.declared.machine.Machine.{Machine}
use Rattle.cg_model_faults.specs.E304.{no_cell_at}
use Rattle.cg_rtl_resolve.specs.declared.scope.Scope.{Scope}
use Rattle.cg_desc_names.specs.Table.{Table, gives_isa}
use Rattle.cg_desc_references.specs.Finding.{stands_as}
use Rattle.cg_desc_references.specs.Clauses.{clauses_of}
use Rattle.cg_desc_references.specs.E304.{is_other, is_of_another_kind}
use Rattle.cg_desc_choices.specs.declared.written.Written.{Written}
use Rattle.cg_desc_scope.specs.Described.{Described}
use Rattle.cg_desc_fault_report.specs.declared.saying.Saying.{Saying}
use Rattle.cg_desc_fault_report.specs.declared.saying.Placed.{Placed}
use Rattle.cg_desc_fault_report.specs.Saying.{only_text, fault_said, earliest_said}
use Rattle.cg_rtl_uses.specs.declared.uses.Use.{Use}
use Rattle.cg_rtl_uses.specs.declared.uses.Use.TheVariants as stands
use Rattle.cg_desc_fault_rtl.specs.declared.asking.Asked.{Asked}
use Rattle.cg_desc_fault_rtl.specs.Asking.{asks_meaning, asks_operands, no_operand}
use Rattle.cg_desc_fault_rtl.specs.Expressions.{expressions}
use Rattle.cg_desc_fault_rtl.specs.Judging.{Says, of_expressions}
use Rattle.cg_desc_fault_name.specs.Names.{placed_names, of_names}
use Rattle.cg_desc_fault_name.specs.MacroNames.{macro_names, of_macro}
use Rattle.cg_desc_fault_name.specs.Words.{of_words}
use Rattle.cg_desc_fault_name.specs.Shapes.{of_choices}

-- A derived operand stands in an expression, where no choice puts it in.
abbrev pub is_derived_kind : Kind → Bool
is_derived_kind Derived = true
is_derived_kind _ = false

abbrev pub is_derived : Table → List ℕ → Bool
is_derived at name = stands_as is_derived_kind (at Operands name)

-- Of what stands in an expression: hardware in `reg` and `raw-reg` that is no register and not the pc, and derived operands.
abbrev pub of_symbol : Table → Asked → Option (List ℕ) → Option Saying
of_symbol at asked None = None
of_symbol at asked (Some name) = if asks_operands asked && is_derived at name then Some (only_text name) else None

unfoldable pub of_another_kind : Table → Machine → Says
of_another_kind at m x (stands.Node o mode n) = if asks_meaning x.asking.asked then option_map (fault_said m []) (first (no_cell_at m o mode n)) else None
of_another_kind at m x what = of_symbol at x.asking.asked (no_operand what)

-- Of a clause of the form of this number: what stands in its expressions, its names, each where it stands, its words, and what is wrong
-- once choices are put in.
abbrev pub is_selected : Described → ℕ → Bool
is_selected d form = gives_isa d.selection.at d.selection.isa form

abbrev pub all_of : Described → Scope → Machine → ℕ → List Written → Element → Clause → List Placed
all_of d scope m form ws e c =
    of_expressions (of_another_kind d.selection.at m) (expressions d scope m ws e c)
    ++ of_names (is_of_another_kind d.selection.at) (placed_names (is_selected d form) (kind_of e) c)
    ++ of_words d.selection e c
    ++ of_macro is_other (macro_names d e c.name)
    ++ of_choices ws c.name

abbrev pub in_clause : Described → Scope → Machine → ℕ → List Written → Element → Clause → List Saying
in_clause d scope m form ws e c = earliest_said (all_of d scope m form ws e c)

-- In the form of this number, which gives this element and these instructions: of each clause the earliest.
abbrev pub e304 : Described → Scope → Machine → ℕ → Element → Form → List Written → List Saying
e304 d scope m form e f ws = flat_map (in_clause d scope m form ws e) (clauses_of (kind_of e) f)
