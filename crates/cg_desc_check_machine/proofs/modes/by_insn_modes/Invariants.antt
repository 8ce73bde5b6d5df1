use Rattle.std.proofs.Common.{◌≡◌, drop}
use Rattle.cg_model_faults.specs.Refusing.{first_found, of_insn_modes}
use Rattle.cg_desc_check_machine.proofs.modes.by_insn_modes.Given as goal

abbrev pub invariant-loop-insn : goal.invariant-loop-insn
invariant-loop-insn l = first_found l.machine (of_insn_modes l.machine (drop l.insn-index l.insn-items)) ≡ first_found l.machine (of_insn_modes l.machine l.machine.insns)
