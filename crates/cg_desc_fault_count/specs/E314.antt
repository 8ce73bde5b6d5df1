-- E314: a get or set rule needs itself.
use Rattle.std.specs.Prelude.{ℕ, List, [], Option, Some, None}
use Rattle.cg_desc_elements.specs.declared.element.Element.{Element}
use Rattle.cg_desc_elements.specs.declared.element.Element.TheVariants.{Hardware}
use Rattle.cg_model.specs.declared.machine.Machine.{Machine}
use Rattle.cg_model_faults.specs.E314.{circular}
use Rattle.cg_hw.specs.declared.form.HardwareForm.{HardwareForm}
use Rattle.cg_desc_scope.specs.Described.{Described}
use Rattle.cg_desc_fault_report.specs.declared.saying.Saying.{Saying}
use Rattle.cg_desc_fault_report.specs.Saying.{faults_said}

abbrev pub of_number : Machine → List ℕ → Option ℕ → List Saying
of_number m own None = []
of_number m own (Some k) = faults_said m own (circular m k)

abbrev pub of_hardware : Described → Machine → HardwareForm → List Saying
of_hardware d m form = of_number m form.name (d.numbers.hardware form.name)

abbrev pub e314 : Described → Machine → Element → List Saying
e314 d m (Hardware form) = of_hardware d m form
e314 d m _ = []
