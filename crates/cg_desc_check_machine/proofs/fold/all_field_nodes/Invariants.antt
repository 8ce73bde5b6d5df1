use Rattle.std.proofs.Common.{◌≡◌, ◌+◌, drop}
use Rattle.cg_model_faults.specs.E308.{all_field_nodes}
use Rattle.cg_desc_check_machine.proofs.fold.all_field_nodes.Given as goal

abbrev pub invariant-loop-field : goal.invariant-loop-field
invariant-loop-field l = l.count + all_field_nodes (drop l.field-index l.fields) ≡ all_field_nodes l.fields
