-- What of a machine's bits and slots has no fault.
use Rattle.std.specs.Prelude.{◌≡◌, ℕ, [], Some, slice_get}
use Rattle.cg_model_faults.specs.E309.{misplaced}
use Rattle.cg_model_faults.specs.E310.{overlaps}
use Rattle.cg_model_faults.specs.E311.{unfit_constants}
use Rattle.cg_model_faults.specs.E312.{undelimited}
use Rattle.cg_model_faults.specs.E313.{slot_operands, written_twice, unmatched, ungiven, unused}
use Rattle.cg_model_faults.specs.E316.{no_bundle_bit, bundled}
use Rattle.cg_model_faults.specs.Elements.{emitted}
use Rattle.cg_model.specs.declared.field.Field.{Field}
use Rattle.cg_model.specs.declared.insn.Insn.{Insn}
use Rattle.cg_model.specs.declared.insn.MacroInsn.{MacroInsn}
use Rattle.cg_model.specs.declared.machine.Machine.{Machine}

-- Of an instruction: its constants fit their fields, no two parts of its format cover one bit, none covers the bit of the bundle field,
-- its slots are delimited, none stands twice in its syntax, and each stands once in its format and in its syntax.
pub record InsnFits (m : Machine) (i : Insn) : Type 0 where
  pub constants : unfit_constants m i.parts ≡ []
  pub apart : overlaps m i.parts ≡ []
  pub free : bundled m i.parts ≡ []
  pub delimited : undelimited m (slot_operands i.parts) i.pieces ≡ []
  pub once : written_twice (slot_operands i.parts) i.pieces ≡ []
  pub matched : unmatched i.pieces (slot_operands i.parts) ≡ []

-- Of a macro instruction: its slots are delimited, each stands once in its syntax and is given to a slot of what it emits, and each slot
-- of what it emits is given something.
pub record MacroFits (m : Machine) (x : MacroInsn) : Type 0 where
  pub delimited : undelimited m x.operands x.pieces ≡ []
  pub once : written_twice x.operands x.pieces ≡ []
  pub matched : unmatched x.pieces x.operands ≡ []
  pub given : ungiven x.given (emitted m x) ≡ []
  pub used : unused x.given x.operands ≡ []

-- Of all elements: each field has its place, and that of bundles is one bit of the first word.
pub record AreFitting (m : Machine) : Type 0 where
  pub bundle : no_bundle_bit m ≡ []
  pub fields : (k : ℕ) (f : Field) → slice_get m.fields k ≡ Some f → misplaced f ≡ []
  pub insns : (k : ℕ) (i : Insn) → slice_get m.insns k ≡ Some i → InsnFits m i
  pub macros : (k : ℕ) (x : MacroInsn) → slice_get m.macros k ≡ Some x → MacroFits m x
