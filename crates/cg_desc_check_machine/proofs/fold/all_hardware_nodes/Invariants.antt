use Rattle.std.proofs.Common.{◌≡◌, ◌+◌, drop}
use Rattle.cg_model_faults.specs.E308.{all_hardware_nodes}
use Rattle.cg_desc_check_machine.proofs.fold.all_hardware_nodes.Given as goal

abbrev pub invariant-loop-each : goal.invariant-loop-each
invariant-loop-each l = l.count + all_hardware_nodes (drop l.each-index l.hardware) ≡ all_hardware_nodes l.hardware
