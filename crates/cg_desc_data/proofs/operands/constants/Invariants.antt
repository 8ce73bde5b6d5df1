use Rattle.std.proofs.Common.{◌≡◌, ◌++◌, drop}
use Rattle.std.specs.List.{flat_map}
use Rattle.cg_desc_data.specs.Seen.{seen}
use Rattle.cg_desc_data.specs.Operands.{constants_of, constants}
use Rattle.cg_desc_data.proofs.operands.constants.Given as goal

-- what is there so far, with what is left, is what the whole gives
abbrev pub invariant-loop-element : goal.invariant-loop-element
invariant-loop-element l =
    l.list ++ flat_map (constants_of (seen l.selection)) (drop l.element-index l.element-items) ≡ constants (seen l.selection)
