use Rattle.std.proofs.Common.{◌≡◌, drop}
use Rattle.std.specs.List.{list_all}
use Rattle.cg_model.specs.Formed.{is_hardware}
use Rattle.cg_desc_check_values.proofs.elements.are_hardware.Given as goal

abbrev pub invariant-loop-hardware : goal.invariant-loop-hardware
invariant-loop-hardware l = list_all (is_hardware l.machine) (drop l.hardware-index l.hardware-items) ≡ list_all (is_hardware l.machine) l.machine.hardware
