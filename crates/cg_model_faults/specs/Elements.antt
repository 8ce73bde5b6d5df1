-- What is wrong with each element of a machine in hand: the faults of the least number first. The first fault is the one that it is
-- refused for. Where a number of an expression names nothing, the rules for what it names aren't asked, and where one of a syntax or
-- a format names nothing, no other rule is asked of the element but counts over the machine.
use Rattle.std.specs.Prelude.{ℕ, ◌++◌, List, [], ◌∷◌, length, Option, Some, None, slice_get}
use Rattle.cg_model_faults.specs.Finding.{Faults, where_none}
use Rattle.cg_model_faults.specs.E304.{no_cells, no_register}
use Rattle.cg_model_faults.specs.E306 as e306
use Rattle.cg_model_faults.specs.E308 as e308
use Rattle.cg_model_faults.specs.E309.{misplaced}
use Rattle.cg_model_faults.specs.E310.{overlaps}
use Rattle.cg_model_faults.specs.E311.{unfit_constants}
use Rattle.cg_model_faults.specs.E312.{undelimited}
use Rattle.cg_model_faults.specs.E313.{slot_operands, written_twice, unmatched, ungiven, unused}
use Rattle.cg_model_faults.specs.E314.{circular}
use Rattle.cg_model_faults.specs.E315.{impure}
use Rattle.cg_model_faults.specs.E316.{no_bundle_bit, bundled}
use Rattle.cg_model_faults.specs.E317.{too_many_insns}
use Rattle.cg_model_faults.specs.Judging.{Judged, judged_faults}
use Rattle.cg_model_faults.specs.declared.fault.Purpose.{Purpose}
use Rattle.cg_model_faults.specs.declared.fault.Purpose.TheVariants as purpose
use Rattle.cg_model.specs.declared.field.Field.{Field}
use Rattle.cg_model.specs.declared.field.Multi.{Multi}
use Rattle.cg_model.specs.declared.hardware.Hardware.{Hardware}
use Rattle.cg_model.specs.declared.insn.Insn.{Insn}
use Rattle.cg_model.specs.declared.insn.MacroInsn.{MacroInsn}
use Rattle.cg_model.specs.declared.machine.Machine.{Machine}
use Rattle.cg_model.specs.declared.operand.Operand.{Operand}
use Rattle.cg_base.specs.declared.mode.Mode.{Mode}
use Rattle.cg_model.specs.declared.rtl.Rtl.{Rtl}

-- Of an expression, where all its numbers name something: what stands in `reg` and `raw-reg`, and what it may name.
abbrev pub cells_of : Machine → Rtl → Faults
cells_of m rtl = where_none (e306.unnamed m rtl) (no_cells m rtl)

abbrev pub numbers_of : Machine → Rtl → Faults
numbers_of m rtl = e306.unnamed m rtl

abbrev pub names_of : Machine → e306.Nameable → Rtl → Faults
names_of m may rtl = e306.unnamed m rtl ++ where_none (e306.unnamed m rtl) (e306.strays m may rtl)

abbrev pub purity_of : Machine → Purpose → List ℕ → Rtl → Faults
purity_of m p subs rtl = where_none (e306.unnamed m rtl) (impure m p subs rtl)

-- The same of an expression that may be absent, and of several.
abbrev pub where_there : (Rtl → Faults) → Option Rtl → Faults
where_there f None = []
where_there f (Some rtl) = f rtl

abbrev pub of_all : (Rtl → Faults) → List Rtl → Faults
of_all f [] = []
of_all f (r ∷ rs) = f r ++ of_all f rs

-- The machine's own name and bundle field.
abbrev pub of_bundle : Machine → Faults
of_bundle m = e306.no_bundle m ++ e308.long_text m.name ++ no_bundle_bit m

-- A field. So many of its kind stand before it, and so many nodes of expressions.
abbrev pub of_field : Machine → ℕ → ℕ → Field → Faults
of_field m before spent f =
    where_there (cells_of m) f.encode ++ where_there (cells_of m) f.decode
    ++ where_there (numbers_of m) f.encode ++ where_there (numbers_of m) f.decode
    ++ e308.of_field before spent f
    ++ misplaced f
    ++ where_there (purity_of m purpose.Encode []) f.encode ++ where_there (purity_of m purpose.Decode []) f.decode

abbrev pub of_multi : Machine → ℕ → ℕ → Multi → Faults
of_multi m before spent x =
    of_all (cells_of m) x.insert ++ cells_of m x.extract
    ++ e306.no_subs m x.subs ++ of_all (numbers_of m) x.insert ++ numbers_of m x.extract
    ++ e308.of_multi before spent x
    ++ of_all (purity_of m purpose.Insert []) x.insert ++ purity_of m purpose.Extract x.subs x.extract

-- Hardware, with so many cells before it.
abbrev pub of_hardware : Machine → ℕ → ℕ → ℕ → Hardware → Faults
of_hardware m before cells spent h =
    no_register h ++ where_there (cells_of m) h.get ++ where_there (cells_of m) h.set
    ++ where_there (names_of m e306.in_hardware) h.get ++ where_there (names_of m e306.in_hardware) h.set
    ++ e308.of_hardware before cells spent h
    ++ circular m before

abbrev pub of_operand : Machine → ℕ → Operand → Faults
of_operand m before o = e306.of_operand m o ++ e308.of_operand before o

-- The expressions of an instruction.
abbrev pub insn_cells : Machine → Insn → Faults
insn_cells m i = where_there (cells_of m) i.assertion ++ cells_of m i.semantics

abbrev pub insn_names : Machine → Insn → Faults
insn_names m i = where_there (names_of m (e306.in_assertion m i.parts)) i.assertion ++ names_of m (e306.in_semantics m i.parts) i.semantics

-- Its format and its syntax.
abbrev pub insn_format : Machine → Insn → Faults
insn_format m i =
    e308.of_shape m i
    ++ overlaps m i.parts
    ++ unfit_constants m i.parts
    ++ undelimited m (slot_operands i.parts) i.pieces
    ++ written_twice (slot_operands i.parts) i.pieces ++ unmatched i.pieces (slot_operands i.parts)
    ++ where_there (purity_of m purpose.Assertion []) i.assertion
    ++ bundled m i.parts

abbrev pub insn_shape : Machine → Insn → Faults
insn_shape m i = e306.of_shape m i.pieces i.parts

abbrev pub of_insn : Machine → ℕ → ℕ → Insn → Faults
of_insn m before spent i =
    where_none (insn_shape m i) (insn_cells m i)
    ++ insn_shape m i
    ++ where_none (insn_shape m i) (insn_names m i)
    ++ e308.of_insn spent i
    ++ where_none (insn_shape m i) (insn_format m i)
    ++ too_many_insns before

-- The operands of the instruction that a macro instruction emits.
abbrev pub emitted : Machine → MacroInsn → List ℕ
emitted m x = elim (slice_get m.insns x.target) [ None ↦ [] | Some i ↦ slot_operands i.parts ]

abbrev pub macro_syntax : Machine → MacroInsn → Faults
macro_syntax m x =
    e308.of_syntax (length x.pieces) (length x.operands)
    ++ undelimited m x.operands x.pieces
    ++ written_twice x.operands x.pieces ++ unmatched x.pieces x.operands
    ++ ungiven x.given (emitted m x) ++ unused x.given x.operands

abbrev pub of_macro : Machine → ℕ → MacroInsn → Faults
of_macro m before x =
    e306.of_macro m x ++ e308.of_macro before x ++ where_none (e306.of_macro m x) (macro_syntax m x)

abbrev pub of_texts : Machine → Faults
of_texts m = e308.of_texts m

-- The expressions of each element by their modes.
abbrev pub judged_where : Purpose → Option Mode → Option Mode → Option Rtl → List Judged
judged_where p want own None = []
judged_where p want own (Some rtl) = record { purpose = p; rtl = rtl; want = want; own = own } ∷ []

abbrev pub field_judged : Field → List Judged
field_judged f = judged_where purpose.Encode (Some f.mode) (Some f.mode) f.encode ++ judged_where purpose.Decode (Some f.mode) (Some f.mode) f.decode

abbrev pub mode_of_field : Machine → ℕ → Option Mode
mode_of_field m k = elim (slice_get m.fields k) [ None ↦ None | Some f ↦ Some f.mode ]

abbrev pub inserts_judged : Machine → Mode → List ℕ → List Rtl → List Judged
inserts_judged m own (k ∷ ks) (r ∷ rs) = judged_where purpose.Insert (mode_of_field m k) (Some own) (Some r) ++ inserts_judged m own ks rs
inserts_judged m own _ _ = []

abbrev pub multi_judged : Machine → Multi → List Judged
multi_judged m x = inserts_judged m x.mode x.subs x.insert ++ judged_where purpose.Extract (Some x.mode) None (Some x.extract)

abbrev pub hardware_judged : Hardware → List Judged
hardware_judged h = judged_where purpose.Get (Some h.mode) None h.get ++ judged_where purpose.Set None (Some h.mode) h.set

abbrev pub insn_judged : Insn → List Judged
insn_judged i = judged_where purpose.Assertion None None i.assertion ++ judged_where purpose.Semantics None None (Some i.semantics)

abbrev pub field_modes : Machine → Field → Faults
field_modes m f = judged_faults m (field_judged f)

abbrev pub multi_modes : Machine → Multi → Faults
multi_modes m x = judged_faults m (multi_judged m x)

abbrev pub hardware_modes : Machine → Hardware → Faults
hardware_modes m h = judged_faults m (hardware_judged h)

abbrev pub insn_modes : Machine → Insn → Faults
insn_modes m i = judged_faults m (insn_judged i)
