use Rattle.std.proofs.Common.{◌≡◌, drop}
use Rattle.cg_model_faults.specs.Refusing.{first_found, of_field_modes}
use Rattle.cg_desc_check_machine.proofs.modes.by_field_modes.Given as goal

abbrev pub invariant-loop-field : goal.invariant-loop-field
invariant-loop-field l = first_found l.machine (of_field_modes l.machine (drop l.field-index l.field-items)) ≡ first_found l.machine (of_field_modes l.machine l.machine.fields)
