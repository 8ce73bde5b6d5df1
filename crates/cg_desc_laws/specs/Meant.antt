-- What the expressions of a machine in hand have no fault in: by what they name (E304, E306), by what may stand in them (E315), and by their
-- modes (E401 to E406).
use Rattle.std.specs.Prelude.{◌≡◌, ℕ, [], Some, slice_get}
use Rattle.cg_model_faults.specs.declared.fault.Purpose.TheVariants as purpose
use Rattle.cg_model.specs.declared.field.Field.{Field}
use Rattle.cg_model.specs.declared.field.Multi.{Multi}
use Rattle.cg_model.specs.declared.hardware.Hardware.{Hardware}
use Rattle.cg_model.specs.declared.insn.Insn.{Insn}
use Rattle.cg_model.specs.declared.machine.Machine.{Machine}
use Rattle.cg_model_faults.specs.E306.{in_hardware}
use Rattle.cg_model_faults.specs.Elements.{cells_of, numbers_of, names_of, purity_of, where_there, of_all, insn_cells, insn_names, field_modes, multi_modes, hardware_modes, insn_modes}

pub record FieldMeant (m : Machine) (f : Field) : Type 0 where
  pub encode_cells : where_there (cells_of m) f.encode ≡ []
  pub decode_cells : where_there (cells_of m) f.decode ≡ []
  pub encode_numbers : where_there (numbers_of m) f.encode ≡ []
  pub decode_numbers : where_there (numbers_of m) f.decode ≡ []
  pub encode_purity : where_there (purity_of m purpose.Encode []) f.encode ≡ []
  pub decode_purity : where_there (purity_of m purpose.Decode []) f.decode ≡ []
  pub modes : field_modes m f ≡ []

pub record MultiMeant (m : Machine) (x : Multi) : Type 0 where
  pub insert_cells : of_all (cells_of m) x.insert ≡ []
  pub extract_cells : cells_of m x.extract ≡ []
  pub insert_numbers : of_all (numbers_of m) x.insert ≡ []
  pub extract_numbers : numbers_of m x.extract ≡ []
  pub insert_purity : of_all (purity_of m purpose.Insert []) x.insert ≡ []
  pub extract_purity : purity_of m purpose.Extract x.subs x.extract ≡ []
  pub modes : multi_modes m x ≡ []

pub record HardwareMeant (m : Machine) (h : Hardware) : Type 0 where
  pub get_cells : where_there (cells_of m) h.get ≡ []
  pub set_cells : where_there (cells_of m) h.set ≡ []
  pub get_names : where_there (names_of m in_hardware) h.get ≡ []
  pub set_names : where_there (names_of m in_hardware) h.set ≡ []
  pub modes : hardware_modes m h ≡ []

pub record InsnMeant (m : Machine) (i : Insn) : Type 0 where
  pub cells : insn_cells m i ≡ []
  pub names : insn_names m i ≡ []
  pub purity : where_there (purity_of m purpose.Assertion []) i.assertion ≡ []
  pub modes : insn_modes m i ≡ []

pub record AreMeant (m : Machine) : Type 0 where
  pub fields : (k : ℕ) (f : Field) → slice_get m.fields k ≡ Some f → FieldMeant m f
  pub multis : (k : ℕ) (x : Multi) → slice_get m.multis k ≡ Some x → MultiMeant m x
  pub hardware : (k : ℕ) (h : Hardware) → slice_get m.hardware k ≡ Some h → HardwareMeant m h
  pub insns : (k : ℕ) (i : Insn) → slice_get m.insns k ≡ Some i → InsnMeant m i
