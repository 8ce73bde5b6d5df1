use Rattle.std.proofs.Common.{◌≡◌, drop}
use Rattle.cg_model_faults.specs.Refusing.{first_found, of_insns}
use Rattle.cg_desc_check_machine.proofs.fold.by_insns.Given as goal

abbrev pub invariant-loop-k : goal.invariant-loop-k
invariant-loop-k l = first_found l.machine (of_insns l.machine l.k l.spent (drop l.k l.insns)) ≡ first_found l.machine (of_insns l.machine 0 l.nodes l.machine.insns)
