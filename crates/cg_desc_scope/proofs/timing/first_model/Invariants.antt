use Rattle.std.proofs.Common.{◌≡◌, drop}
use Rattle.std.specs.List.{filter_map}
use Rattle.cg_base.specs.Refusing.{first}
use Rattle.cg_desc_data.specs.Seen.{seen}
use Rattle.cg_desc_data.specs.Selecting.{member}
use Rattle.cg_desc_scope.specs.Timing.{model_in, first_model}
use Rattle.cg_desc_scope.proofs.timing.first_model.Given as goal

-- what is left gives what the whole gives
abbrev pub invariant-loop-element : goal.invariant-loop-element
invariant-loop-element l =
    first (filter_map (member (seen l.selection) (model_in l.selection.machine.now)) (drop l.element-index l.element-items)) ≡ first_model (seen l.selection)
