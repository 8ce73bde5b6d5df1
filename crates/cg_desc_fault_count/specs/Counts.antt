-- How much of what is counted over a whole machine the forms of a description give.
use Rattle.std.specs.Prelude.{ℕ, ◌+◌, if◌then◌else◌, List, map}
use Rattle.std.specs.List.{flat_map}
use Rattle.std.specs.Option.{option_map, unwrap_or}
use Rattle.cg_base.specs.declared.form.Form.{Form}
use Rattle.cg_hw.specs.declared.form.HardwareForm.{HardwareForm}
use Rattle.cg_ifield.specs.declared.form.PlainForm.{PlainForm}
use Rattle.cg_ifield.specs.declared.form.MultiForm.{MultiForm}
use Rattle.cg_ifield.specs.declared.form.FieldForm.TheVariants as field
use Rattle.cg_operand.specs.declared.form.OperandForm.TheVariants as operand
use Rattle.cg_insn.specs.declared.form.InsnForm.TheVariants as insn
use Rattle.cg_desc_elements.specs.declared.element.Element.{Element}
use Rattle.cg_desc_elements.specs.declared.element.Element.TheVariants as element
use Rattle.cg_model_faults.specs.E308.{field_nodes, multi_nodes, hardware_nodes, insn_nodes, sum_of}
use Rattle.cg_rtl_resolve.specs.declared.scope.Scope.{Scope}
use Rattle.cg_desc_choices.specs.declared.written.Written.{Written}
use Rattle.cg_desc_data.specs.Selecting.{takes_part_in}
use Rattle.cg_desc_data.specs.Hardware.{cells_of}
use Rattle.cg_desc_scope.specs.Bare.{bare_in}
use Rattle.cg_desc_scope.specs.Texts.{texts_with}
use Rattle.cg_desc_scope.specs.Described.{Described}
use Rattle.cg_desc_machine.specs.Rules.{ruled_field, ruled_multi, ruled_hardware}
use Rattle.cg_desc_machine.specs.Instructions.{insn_of}
use Rattle.cg_desc_fault_count.specs.declared.counts.Counts.{Counts}
use Rattle.cg_desc_fault_count.specs.declared.counts.Before as declared
use Rattle.cg_desc_fault_count.specs.Known.{Standing, nothing, with_all, count_new, seen_known}

abbrev pub none : Counts
none = record { fields = 0; multis = 0; hardware = 0; cells = 0; operands = 0; macros = 0; nodes = 0; texts = 0 }

-- Five kinds of hardware are built in.
abbrev pub at_first : Counts
at_first = record none { hardware = 5 }

abbrev pub together : Counts → Counts → Counts
together a b = record {
  fields = a.fields + b.fields;
  multis = a.multis + b.multis;
  hardware = a.hardware + b.hardware;
  cells = a.cells + b.cells;
  operands = a.operands + b.operands;
  macros = a.macros + b.macros;
  nodes = a.nodes + b.nodes;
  texts = a.texts + b.texts;
}

-- What stands before a form: counts, error texts, and the bare fields of formats.
pub record Before : Type 0 where
  pub counts : Counts
  pub texts : Standing
  pub bare : Standing

abbrev pub nothing_before : Before
nothing_before = record { counts = at_first; texts = nothing; bare = nothing }

-- The nodes of an instruction's expressions.
abbrev pub nodes_of : Described → Scope → Written → ℕ
nodes_of d scope w = unwrap_or (option_map insn_nodes (insn_of d scope w)) 0

abbrev pub all_nodes : Described → Scope → List Written → ℕ
all_nodes d scope ws = sum_of (map (nodes_of d scope) ws)

-- Bare fields count as operands at the form where they first appear.
abbrev pub bare_of : Described → List Written → List (List ℕ)
bare_of d ws = flat_map (bare_in d.selection.at) ws

abbrev pub of_field : Described → Scope → PlainForm → Counts
of_field d scope f = record none { fields = 1; nodes = field_nodes (ruled_field d scope f) }

abbrev pub of_multi : Described → Scope → MultiForm → Counts
of_multi d scope f = record none { multis = 1; nodes = multi_nodes (ruled_multi d scope f) }

abbrev pub of_hardware : Described → Scope → HardwareForm → Counts
of_hardware d scope f = record none { hardware = 1; cells = cells_of f; nodes = hardware_nodes (ruled_hardware d scope f) }

abbrev pub one_operand : Counts
one_operand = record none { operands = 1 }

abbrev pub one_macro : Counts
one_macro = record none { macros = 1 }

abbrev pub of_insn : Described → Scope → ℕ → List Written → Counts
of_insn d scope bare ws = record none { operands = bare; nodes = all_nodes d scope ws }

-- What an element gives, its error texts aside, where so many bare fields of its formats are new.
abbrev pub counts_by : Described → Scope → ℕ → List Written → Element → Counts
counts_by d scope bare ws (element.Field (field.Plain f)) = of_field d scope f
counts_by d scope bare ws (element.Field (field.Multi f)) = of_multi d scope f
counts_by d scope bare ws (element.Hardware f) = of_hardware d scope f
counts_by d scope bare ws (element.Operand (operand.Plain f)) = one_operand
counts_by d scope bare ws (element.Insn (insn.Instruction f)) = of_insn d scope bare ws
counts_by d scope bare ws (element.Insn (insn.Macro f)) = one_macro
counts_by d scope bare ws _ = none

-- What it gives with so many new error texts, where it takes part.
abbrev pub counts_with : Described → Scope → ℕ → ℕ → Element → List Written → Counts
counts_with d scope texts bare e ws = if takes_part_in d.selection e then record (counts_by d scope bare ws e) { texts = texts } else none

-- The error texts of a form that gives this element and these instructions.
abbrev pub texts_of : Described → Element → Form → List Written → List (List ℕ)
texts_of d e f ws = texts_with d.selection e f ws

-- What it adds, which gives this element and these instructions, behind what stands before it.
abbrev pub counts_at : Described → Scope → Before → ℕ → Element → Form → List Written → Counts
counts_at d scope b form e f ws = counts_with d scope (count_new b.texts (texts_of d e f ws)) (count_new b.bare (bare_of d ws)) e ws

-- Its error texts and bare fields stand before the next form, and what it adds is counted.
abbrev pub with_names : Described → Before → ℕ → Element → Form → List Written → Before
with_names d b form e f ws = record b { texts = with_all b.texts (texts_of d e f ws); bare = with_all b.bare (bare_of d ws) }

abbrev pub with_counts : Before → Counts → Before
with_counts b own = record b { counts = together b.counts own }

abbrev pub behind : Described → Scope → Before → ℕ → Element → Form → List Written → Before
behind d scope b form e f ws = with_counts (with_names d b form e f ws) (counts_at d scope b form e f ws)

-- what the code keeps
abbrev pub seen_before : declared.Before → Before
seen_before b = record { counts = b.counts; texts = seen_known b.texts; bare = seen_known b.bare }
