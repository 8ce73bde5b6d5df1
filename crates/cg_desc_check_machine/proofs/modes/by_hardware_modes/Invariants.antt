use Rattle.std.proofs.Common.{◌≡◌, drop}
use Rattle.cg_model_faults.specs.Refusing.{first_found, of_hardware_modes}
use Rattle.cg_desc_check_machine.proofs.modes.by_hardware_modes.Given as goal

abbrev pub invariant-loop-each : goal.invariant-loop-each
invariant-loop-each l = first_found l.machine (of_hardware_modes l.machine (drop l.each-index l.each-items)) ≡ first_found l.machine (of_hardware_modes l.machine l.machine.hardware)
