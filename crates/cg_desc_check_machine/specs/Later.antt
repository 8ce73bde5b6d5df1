-- The elements of a machine that are judged later, with so many nodes of expressions before them. Those behind hardware.
use Rattle.std.specs.Prelude.{ℕ, ◌+◌, List, [], ◌∷◌, ◌++◌}
use Rattle.cg_model_faults.specs.E308.{all_multi_nodes, all_hardware_nodes}
use Rattle.cg_model_faults.specs.Elements.{of_texts}
use Rattle.cg_model_faults.specs.Refusing.{Found, of_multis, of_all_hardware, of_operands, of_insns, of_macros}
use Rattle.cg_model.specs.declared.machine.Machine.{Machine}

abbrev pub later_data : Machine → ℕ → List Found
later_data m nodes = of_operands m 0 m.operands ++ of_insns m 0 nodes m.insns ++ of_macros m 0 m.macros ++ ([], of_texts m) ∷ []

-- Those from hardware on, and those from multi fields on.
abbrev pub from_hardware : Machine → ℕ → List Found
from_hardware m nodes = of_all_hardware m 0 0 nodes m.hardware ++ later_data m (nodes + all_hardware_nodes m.hardware)

abbrev pub from_multis : Machine → ℕ → List Found
from_multis m nodes = of_multis m 0 nodes m.multis ++ from_hardware m (nodes + all_multi_nodes m.multis)
