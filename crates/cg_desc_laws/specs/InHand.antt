-- What a machine in hand is refused for by its counts (E308), by rules that need themselves (E314) and by the number of its instructions
-- (E317): of each kind of elements, in their order, behind so many of their kind and so many nodes of expressions.
use Rattle.std.specs.Prelude.{◌≡◌, ◌≤◌, ℕ, suc, ◌+◌, true, List, [], ◌∷◌, ◌++◌, length, Some, slice_get}
use Rattle.cg_desc_elements.specs.E318.{selected_arch, selected_isa, selected_mach}
use Rattle.cg_desc_names.specs.Table.{table_of}
use Rattle.cg_desc_choices.specs.declared.written.Written.{Written}
use Rattle.cg_desc_data.specs.Selecting.{Selection}
use Rattle.cg_desc_scope.specs.Described.{Described, all_operand_names}
use Rattle.cg_desc_machine.specs.Instructions.{slot_names}
use Rattle.cg_model.specs.declared.field.Field.{Field}
use Rattle.cg_model.specs.declared.field.Multi.{Multi}
use Rattle.cg_model.specs.declared.hardware.Hardware.{Hardware}
use Rattle.cg_model.specs.declared.insn.Insn.{Insn}
use Rattle.cg_model.specs.declared.insn.MacroInsn.{MacroInsn}
use Rattle.cg_model.specs.declared.machine.Machine.{Machine}
use Rattle.cg_model.specs.declared.operand.Operand.{Operand}
use Rattle.cg_model_faults.specs.Finding.{Faults}
use Rattle.cg_model_faults.specs.E308 as e308
use Rattle.cg_model_faults.specs.E308.{field_nodes, multi_nodes, hardware_nodes, insn_nodes, long_text, of_texts}
use Rattle.cg_model_faults.specs.E314.{circular}
use Rattle.cg_model_faults.specs.E317.{too_many_insns}
use Rattle.cg_model_faults.specs.Refusing.{spent_on_fields, spent_on_multis, spent_on_hardware}

abbrev pub of_fields : ℕ → ℕ → List Field → Faults
of_fields before spent [] = []
of_fields before spent (f ∷ fs) = e308.of_field before spent f ++ of_fields (suc before) (spent + field_nodes f) fs

abbrev pub of_multis : ℕ → ℕ → List Multi → Faults
of_multis before spent [] = []
of_multis before spent (x ∷ xs) = e308.of_multi before spent x ++ of_multis (suc before) (spent + multi_nodes x) xs

-- Hardware, behind so many cells too.
abbrev pub of_all_hardware : ℕ → ℕ → ℕ → List Hardware → Faults
of_all_hardware before cells spent [] = []
of_all_hardware before cells spent (h ∷ hs) = e308.of_hardware before cells spent h ++ of_all_hardware (suc before) (cells + h.count) (spent + hardware_nodes h) hs

abbrev pub of_operands : ℕ → List Operand → Faults
of_operands before [] = []
of_operands before (o ∷ os) = e308.of_operand before o ++ of_operands (suc before) os

abbrev pub of_insns : ℕ → List Insn → Faults
of_insns spent [] = []
of_insns spent (i ∷ is) = e308.of_insn spent i ++ of_insns (spent + insn_nodes i) is

-- Instructions by themselves.
abbrev pub of_shapes : Machine → List Insn → Faults
of_shapes m [] = []
of_shapes m (i ∷ is) = e308.of_shape m i ++ of_shapes m is

-- Macro instructions and their syntaxes.
abbrev pub of_macros : ℕ → List MacroInsn → Faults
of_macros before [] = []
of_macros before (x ∷ xs) = e308.of_macro before x ++ of_macros (suc before) xs

abbrev pub of_syntaxes : List MacroInsn → Faults
of_syntaxes [] = []
of_syntaxes (x ∷ xs) = e308.of_syntax (length x.pieces) (length x.operands) ++ of_syntaxes xs

-- E314 and E317.
abbrev pub of_rules : Machine → ℕ → List Hardware → Faults
of_rules m before [] = []
of_rules m before (h ∷ hs) = circular m before ++ of_rules m (suc before) hs

abbrev pub of_numbers : ℕ → List Insn → Faults
of_numbers before [] = []
of_numbers before (i ∷ is) = too_many_insns before ++ of_numbers (suc before) is

-- The form of the machine is the one that is selected, the instruction set is the first of its own, and names lead to where they stand.
pub record IsChosen (s : Selection) : Type 0 where
  pub mach : selected_mach s.machine s.elements ≡ Some (s.form, s.mach)
  pub isa : s.isa ≡ selected_isa s.mach (selected_arch s.machine s.elements)
  pub at : s.at ≡ table_of s.machine s.isa s.elements

-- A machine is refused for none of these.
pub record AreWithin (m : Machine) : Type 0 where
  pub name : long_text m.name ≡ []
  pub fields : of_fields 0 0 m.fields ≡ []
  pub multis : of_multis 0 (spent_on_fields m) m.multis ≡ []
  pub hardware : of_all_hardware 0 0 (spent_on_multis m) m.hardware ≡ []
  pub rules : of_rules m 0 m.hardware ≡ []
  pub insns : of_insns (spent_on_hardware m) m.insns ≡ []
  pub numbers : of_numbers 0 m.insns ≡ []
  pub shapes : of_shapes m m.insns ≡ []
  pub operands : of_operands 0 m.operands ≡ []
  pub macros : of_macros 0 m.macros ≡ []
  pub syntaxes : of_syntaxes m.macros ≡ []
  pub texts : of_texts m ≡ []

-- The machine's sizes are known, and there are numbers for all operands, and for all slots of an instruction.
pub record AreKnown (d : Described) : Type 0 where
  pub sized : d.framing.is_sized ≡ true
  pub operands : length (all_operand_names d.selection d.written) ≤ 1024
  pub slots : (k : ℕ) (w : Written) → slice_get d.written k ≡ Some w → length (slot_names d w) ≤ 16
