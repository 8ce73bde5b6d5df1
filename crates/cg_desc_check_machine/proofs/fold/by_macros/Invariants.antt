use Rattle.std.proofs.Common.{◌≡◌, drop}
use Rattle.cg_model_faults.specs.Refusing.{first_found, of_macros}
use Rattle.cg_desc_check_machine.proofs.fold.by_macros.Given as goal

abbrev pub invariant-loop-insn : goal.invariant-loop-insn
invariant-loop-insn l = first_found l.machine (of_macros l.machine l.before (drop l.insn-index l.insn-items)) ≡ first_found l.machine (of_macros l.machine 0 l.machine.macros)
