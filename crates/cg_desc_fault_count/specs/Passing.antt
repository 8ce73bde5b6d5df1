-- Limits that are passed.
use Rattle.cg_model_faults.specs.declared.fault.MachineFault.{MachineFault}
use Rattle.cg_model_faults.specs.declared.fault.Said.TheVariants.{Count}
use Rattle.cg_model_faults.specs.Finding.{at_place}
use Rattle.cg_desc_fault_count.specs.declared.passing.Passed.{Passed}

-- what the code keeps
abbrev pub seen_passed : Passed → MachineFault
seen_passed p = at_place 308 0 (Count p.limit) (Count p.count)
