-- E310: two parts of a format cover one bit. Of a field that leaves its word the bits within count.
use Rattle.std.specs.Prelude.{if◌then◌else◌, List, []}
use Rattle.std.specs.List.{flat_map}
use Rattle.cg_base.specs.Refusing.{first}
use Rattle.cg_model.specs.declared.machine.Machine.{Machine}
use Rattle.cg_model_faults.specs.E310.{overlaps}
use Rattle.cg_desc_choices.specs.declared.written.Written.{Written}
use Rattle.cg_desc_scope.specs.Described.{Described}
use Rattle.cg_desc_machine.specs.Instructions.{parts_of}
use Rattle.cg_desc_fault_report.specs.declared.saying.Saying.{Saying}
use Rattle.cg_desc_fault_report.specs.declared.saying.Placed.{Placed}
use Rattle.cg_desc_fault_report.specs.Saying.{earliest_said}
use Rattle.cg_desc_fault_report.specs.Spots.{at_part, first_at}

-- At the first of two parts that do.
abbrev pub of_written : Described → Machine → Written → List Placed
of_written d m w = first_at (at_part m w) (first (overlaps m (parts_of d w)))

abbrev pub e310 : Described → Machine → List Written → List Saying
e310 d m ws = if d.framing.is_sized then earliest_said (flat_map (of_written d m) ws) else []
