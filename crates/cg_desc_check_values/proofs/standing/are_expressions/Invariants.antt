use Rattle.std.proofs.Common.{◌≡◌, drop}
use Rattle.std.specs.List.{list_all}
use Rattle.cg_model.specs.Formed.{is_formed}
use Rattle.cg_desc_check_values.proofs.standing.are_expressions.Given as goal

abbrev pub invariant-loop-rtl : goal.invariant-loop-rtl
invariant-loop-rtl l = list_all is_formed (drop l.rtl-index l.rtls) ≡ list_all is_formed l.rtls
