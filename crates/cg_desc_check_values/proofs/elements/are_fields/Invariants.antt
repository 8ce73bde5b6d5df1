use Rattle.std.proofs.Common.{◌≡◌, drop}
use Rattle.std.specs.List.{list_all}
use Rattle.cg_model.specs.Formed.{is_field}
use Rattle.cg_desc_check_values.proofs.elements.are_fields.Given as goal

abbrev pub invariant-loop-field : goal.invariant-loop-field
invariant-loop-field l = list_all is_field (drop l.field-index l.fields) ≡ list_all is_field l.fields
