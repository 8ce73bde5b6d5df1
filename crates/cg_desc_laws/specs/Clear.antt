-- What is said of a machine in hand beside its counts, its rules that need themselves and its numbers outside of expressions: nothing of its
-- expressions, by what they name, by what may stand in them and by their modes; and nothing of its bits and slots.
use Rattle.std.specs.Prelude.{◌≡◌, ℕ, [], Some, slice_get}
use Rattle.cg_model_faults.specs.declared.fault.Purpose.TheVariants as purpose
use Rattle.cg_model.specs.declared.field.Field.{Field}
use Rattle.cg_model.specs.declared.field.Multi.{Multi}
use Rattle.cg_model.specs.declared.hardware.Hardware.{Hardware}
use Rattle.cg_model.specs.declared.insn.Insn.{Insn}
use Rattle.cg_model.specs.declared.insn.MacroInsn.{MacroInsn}
use Rattle.cg_model.specs.declared.machine.Machine.{Machine}
use Rattle.cg_model_faults.specs.E306.{in_hardware}
use Rattle.cg_model_faults.specs.E309.{misplaced}
use Rattle.cg_model_faults.specs.E310.{overlaps}
use Rattle.cg_model_faults.specs.E311.{unfit_constants}
use Rattle.cg_model_faults.specs.E312.{undelimited}
use Rattle.cg_model_faults.specs.E313.{slot_operands, written_twice, unmatched, ungiven, unused}
use Rattle.cg_model_faults.specs.E316.{no_bundle_bit, bundled}
use Rattle.cg_model_faults.specs.Elements.{cells_of, numbers_of, names_of, purity_of, where_there, of_all, insn_cells, insn_names, emitted, field_modes, multi_modes, hardware_modes, insn_modes}

pub record FieldClear (m : Machine) (f : Field) : Type 0 where
  pub encode_cells : where_there (cells_of m) f.encode ≡ []
  pub decode_cells : where_there (cells_of m) f.decode ≡ []
  pub encode_numbers : where_there (numbers_of m) f.encode ≡ []
  pub decode_numbers : where_there (numbers_of m) f.decode ≡ []
  pub place : misplaced f ≡ []
  pub encode_purity : where_there (purity_of m purpose.Encode []) f.encode ≡ []
  pub decode_purity : where_there (purity_of m purpose.Decode []) f.decode ≡ []
  pub modes : field_modes m f ≡ []

pub record MultiClear (m : Machine) (x : Multi) : Type 0 where
  pub insert_cells : of_all (cells_of m) x.insert ≡ []
  pub extract_cells : cells_of m x.extract ≡ []
  pub insert_numbers : of_all (numbers_of m) x.insert ≡ []
  pub extract_numbers : numbers_of m x.extract ≡ []
  pub insert_purity : of_all (purity_of m purpose.Insert []) x.insert ≡ []
  pub extract_purity : purity_of m purpose.Extract x.subs x.extract ≡ []
  pub modes : multi_modes m x ≡ []

pub record HardwareClear (m : Machine) (h : Hardware) : Type 0 where
  pub get_cells : where_there (cells_of m) h.get ≡ []
  pub set_cells : where_there (cells_of m) h.set ≡ []
  pub get_names : where_there (names_of m in_hardware) h.get ≡ []
  pub set_names : where_there (names_of m in_hardware) h.set ≡ []
  pub modes : hardware_modes m h ≡ []

pub record InsnClear (m : Machine) (i : Insn) : Type 0 where
  pub cells : insn_cells m i ≡ []
  pub names : insn_names m i ≡ []
  pub apart : overlaps m i.parts ≡ []
  pub constants : unfit_constants m i.parts ≡ []
  pub delimited : undelimited m (slot_operands i.parts) i.pieces ≡ []
  pub once : written_twice (slot_operands i.parts) i.pieces ≡ []
  pub matched : unmatched i.pieces (slot_operands i.parts) ≡ []
  pub purity : where_there (purity_of m purpose.Assertion []) i.assertion ≡ []
  pub free : bundled m i.parts ≡ []
  pub modes : insn_modes m i ≡ []

pub record MacroClear (m : Machine) (x : MacroInsn) : Type 0 where
  pub delimited : undelimited m x.operands x.pieces ≡ []
  pub once : written_twice x.operands x.pieces ≡ []
  pub matched : unmatched x.pieces x.operands ≡ []
  pub given : ungiven x.given (emitted m x) ≡ []
  pub used : unused x.given x.operands ≡ []

pub record AreClear (m : Machine) : Type 0 where
  pub bundle : no_bundle_bit m ≡ []
  pub fields : (k : ℕ) (f : Field) → slice_get m.fields k ≡ Some f → FieldClear m f
  pub multis : (k : ℕ) (x : Multi) → slice_get m.multis k ≡ Some x → MultiClear m x
  pub hardware : (k : ℕ) (h : Hardware) → slice_get m.hardware k ≡ Some h → HardwareClear m h
  pub insns : (k : ℕ) (i : Insn) → slice_get m.insns k ≡ Some i → InsnClear m i
  pub macros : (k : ℕ) (x : MacroInsn) → slice_get m.macros k ≡ Some x → MacroClear m x
