use Rattle.std.proofs.Common.{◌≡◌, drop}
use Rattle.cg_model_faults.specs.Refusing.{first_found, of_all_hardware}
use Rattle.cg_desc_check_machine.proofs.fold.by_hardware.Given as goal

abbrev pub invariant-loop-k : goal.invariant-loop-k
invariant-loop-k l = first_found l.machine (of_all_hardware l.machine l.k l.cells l.spent (drop l.k l.hardware)) ≡ first_found l.machine (of_all_hardware l.machine 0 0 l.nodes l.machine.hardware)
