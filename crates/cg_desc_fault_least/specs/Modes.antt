-- E401 to E404 and E406 of a form: the first fault of the first of its expressions that has one. Rules go as their clauses stand; of an
-- instruction the assertions with every choice go before what it does with any.
use Rattle.std.specs.Prelude.{ℕ, if◌then◌else◌, List, [], ◌∷◌, ◌++◌, map, Option, Some, None, slice_get, codes}
use Rattle.std.specs.List.{filter_map, flat_map}
use Rattle.std.specs.Option.{unwrap_or}
use Rattle.cg_base.specs.declared.form.Form.{Form}
use Rattle.cg_base.specs.declared.mode.Mode.{Mode}
use Rattle.cg_base.specs.Texts.{same_text}
use Rattle.cg_attrs.specs.Clauses.{Clause}
use Rattle.cg_ifield.specs.declared.form.FieldForm.TheVariants as field
use Rattle.cg_insn.specs.declared.form.InsnForm.TheVariants as insn
use Rattle.cg_desc_elements.specs.declared.element.Element.{Element}
use Rattle.cg_desc_elements.specs.declared.element.Element.TheVariants as element
use Rattle.cg_model_faults.specs.declared.fault.MachineFault.{MachineFault}
use Rattle.cg_model_faults.specs.declared.fault.Purpose.{Purpose}
use Rattle.cg_model_faults.specs.declared.fault.Purpose.TheVariants as purpose
use Rattle.cg_model.specs.declared.field.Field.{Field}
use Rattle.cg_model.specs.declared.field.Multi.{Multi}
use Rattle.cg_model.specs.declared.hardware.Hardware.{Hardware}
use Rattle.cg_model.specs.declared.machine.Machine.{Machine}
use Rattle.cg_model.specs.declared.rtl.Rtl.{Rtl}
use Rattle.cg_model_faults.specs.Elements.{mode_of_field}
use Rattle.cg_model_faults.specs.Judging.{mode_faults}
use Rattle.cg_desc_check_element.specs.declared.moded.Wanted.{Wanted}
use Rattle.cg_desc_check_element.specs.Wanting.{judged}
use Rattle.cg_rtl_resolve.specs.Names.{rtl_of}
use Rattle.cg_rtl_resolve.specs.declared.scope.Scope.{Scope}
use Rattle.cg_desc_choices.specs.declared.written.Written.{Written}
use Rattle.cg_desc_choices.specs.Choices.{all_assertions}
use Rattle.cg_desc_data.specs.Numbering.{Numbering}
use Rattle.cg_desc_scope.specs.Described.{Described}
use Rattle.cg_desc_fault_rtl.specs.Expressions.{sets_in}
use Rattle.cg_desc_machine.specs.Rules.{ruled_field, ruled_multi, ruled_hardware, insert_scope}
use Rattle.cg_desc_machine.specs.Instructions.{assertion_of}
use Rattle.cg_desc_fault_report.specs.declared.saying.Saying.{Saying}
use Rattle.cg_desc_fault_report.specs.Saying.{fault_said, with_number}

-- What is said of a fault, with its number.
abbrev pub Found : Type 0
Found = List (ℕ × Saying)

abbrev pub found : Machine → List ℕ → MachineFault → ℕ × Saying
found m own f = with_number f.number (fault_said m own f)

-- Of an expression of an element of this name, of which this is wanted.
abbrev pub wanted : Purpose → Option Mode → Option Mode → Wanted
wanted p want own = record { purpose = p; want = want; own = own }

abbrev pub of_rtl : Machine → List ℕ → Wanted → Rtl → Found
of_rtl m own w rtl = map (found m own) (mode_faults m (judged w rtl))

abbrev pub of_where : Machine → List ℕ → Wanted → Option Rtl → Found
of_where m own w None = []
of_where m own w (Some rtl) = of_rtl m own w rtl

-- Of a field, of hardware and of a multi field, in one of their clauses.
abbrev pub field_clause : Machine → Field → Clause → Found
field_clause m f c =
    if same_text (codes "encode") c.name then of_where m f.name (wanted purpose.Encode (Some f.mode) (Some f.mode)) f.encode
    else if same_text (codes "decode") c.name then of_where m f.name (wanted purpose.Decode (Some f.mode) (Some f.mode)) f.decode
    else []

abbrev pub hardware_clause : Machine → Hardware → Clause → Found
hardware_clause m h c =
    if same_text (codes "get") c.name then of_where m h.name (wanted purpose.Get (Some h.mode) None) h.get
    else if same_text (codes "set") c.name then of_where m h.name (wanted purpose.Set None (Some h.mode)) h.set
    else []

-- The expressions of `insert` go in the order in which they are written.
abbrev pub of_sub : Machine → Scope → Multi → Form → Option ℕ → Found
of_sub m scope x f None = []
of_sub m scope x f (Some k) = of_rtl m x.name (wanted purpose.Insert (mode_of_field m k) (Some x.mode)) (rtl_of scope f)

abbrev pub of_set : Numbering → Machine → Scope → Multi → List ℕ × Form → Found
of_set fields m scope x set = of_sub m scope x set.1 (fields set.0)

abbrev pub of_sets : Numbering → Machine → Scope → Multi → List (List ℕ × Form) → Found
of_sets fields m scope x sets = flat_map (of_set fields m scope x) sets

abbrev pub multi_clause : Numbering → Machine → Scope → Multi → Clause → Found
multi_clause fields m scope x c =
    if same_text (codes "insert") c.name then of_sets fields m (insert_scope scope x) x (sets_in c)
    else if same_text (codes "extract") c.name then of_rtl m x.name (wanted purpose.Extract (Some x.mode) None) x.extract
    else []

-- Of the instructions of a form.
abbrev pub of_assertion : Machine → Scope → Written → Found
of_assertion m scope w = of_where m w.name (wanted purpose.Assertion None None) (assertion_of scope (all_assertions w))

abbrev pub of_semantics : Machine → Scope → Written → Found
of_semantics m scope w = of_rtl m w.name (wanted purpose.Semantics None None) (rtl_of scope w.semantics)

abbrev pub of_insns : Machine → Scope → List Written → Found
of_insns m scope ws = flat_map (of_assertion m scope) ws ++ flat_map (of_semantics m scope) ws

-- All of a form with these clauses, which gives this element and these instructions, in their order.
abbrev pub modes_said : Described → Scope → Machine → List Clause → List Written → Element → Found
modes_said d scope m cs ws (element.Field (field.Plain form)) = flat_map (field_clause m (ruled_field d scope form)) cs
modes_said d scope m cs ws (element.Field (field.Multi form)) = flat_map (multi_clause d.numbers.fields m scope (ruled_multi d scope form)) cs
modes_said d scope m cs ws (element.Hardware form) = flat_map (hardware_clause m (ruled_hardware d scope form)) cs
modes_said d scope m cs ws (element.Insn (insn.Instruction form)) = of_insns m scope ws
modes_said d scope m cs ws _ = []
