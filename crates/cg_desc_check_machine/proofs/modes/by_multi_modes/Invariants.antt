use Rattle.std.proofs.Common.{◌≡◌, drop}
use Rattle.cg_model_faults.specs.Refusing.{first_found, of_multi_modes}
use Rattle.cg_desc_check_machine.proofs.modes.by_multi_modes.Given as goal

abbrev pub invariant-loop-multi : goal.invariant-loop-multi
invariant-loop-multi l = first_found l.machine (of_multi_modes l.machine (drop l.multi-index l.multi-items)) ≡ first_found l.machine (of_multi_modes l.machine l.machine.multis)
