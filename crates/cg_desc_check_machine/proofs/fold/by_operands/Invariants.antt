use Rattle.std.proofs.Common.{◌≡◌, drop}
use Rattle.cg_model_faults.specs.Refusing.{first_found, of_operands}
use Rattle.cg_desc_check_machine.proofs.fold.by_operands.Given as goal

abbrev pub invariant-loop-operand : goal.invariant-loop-operand
invariant-loop-operand l = first_found l.machine (of_operands l.machine l.before (drop l.operand-index l.operand-items)) ≡ first_found l.machine (of_operands l.machine 0 l.machine.operands)
