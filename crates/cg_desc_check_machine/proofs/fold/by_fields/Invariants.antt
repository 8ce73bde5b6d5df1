use Rattle.std.proofs.Common.{◌≡◌, drop}
use Rattle.cg_model_faults.specs.Refusing.{first_found, of_fields}
use Rattle.cg_desc_check_machine.proofs.fold.by_fields.Given as goal

abbrev pub invariant-loop-field : goal.invariant-loop-field
invariant-loop-field l = first_found l.machine (of_fields l.machine l.before l.spent (drop l.field-index l.field-items)) ≡ first_found l.machine (of_fields l.machine 0 0 l.machine.fields)
