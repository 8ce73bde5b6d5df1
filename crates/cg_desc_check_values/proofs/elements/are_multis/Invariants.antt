use Rattle.std.proofs.Common.{◌≡◌, drop}
use Rattle.std.specs.List.{list_all}
use Rattle.cg_model.specs.Formed.{is_multi}
use Rattle.cg_desc_check_values.proofs.elements.are_multis.Given as goal

abbrev pub invariant-loop-multi : goal.invariant-loop-multi
invariant-loop-multi l = list_all is_multi (drop l.multi-index l.multis) ≡ list_all is_multi l.multis
