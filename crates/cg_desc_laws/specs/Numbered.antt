-- What a machine's elements name by numbers outside of expressions is there (E306): the bundle's field, subfields, hardware and sources of
-- operands, slots and parts of instructions, and what macro instructions name. And hardware that has a rule is a register (E304).
use Rattle.std.specs.Prelude.{◌≡◌, ℕ, [], Some, slice_get}
use Rattle.cg_model.specs.declared.field.Multi.{Multi}
use Rattle.cg_model.specs.declared.hardware.Hardware.{Hardware}
use Rattle.cg_model.specs.declared.insn.Insn.{Insn}
use Rattle.cg_model.specs.declared.insn.MacroInsn.{MacroInsn}
use Rattle.cg_model.specs.declared.machine.Machine.{Machine}
use Rattle.cg_model.specs.declared.operand.Operand.{Operand}
use Rattle.cg_model_faults.specs.E304.{no_register}
use Rattle.cg_model_faults.specs.E306.{no_bundle, no_subs, of_operand, of_shape, of_macro}

pub record AreNumbered (m : Machine) : Type 0 where
  pub bundle : no_bundle m ≡ []
  pub multis : (k : ℕ) (x : Multi) → slice_get m.multis k ≡ Some x → no_subs m x.subs ≡ []
  pub hardware : (k : ℕ) (h : Hardware) → slice_get m.hardware k ≡ Some h → no_register h ≡ []
  pub operands : (k : ℕ) (o : Operand) → slice_get m.operands k ≡ Some o → of_operand m o ≡ []
  pub insns : (k : ℕ) (i : Insn) → slice_get m.insns k ≡ Some i → of_shape m i.pieces i.parts ≡ []
  pub macros : (k : ℕ) (x : MacroInsn) → slice_get m.macros k ≡ Some x → of_macro m x ≡ []
