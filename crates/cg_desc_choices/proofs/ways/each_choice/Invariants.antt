use Rattle.std.proofs.Common.{◌≡◌, ◌++◌, drop, map}
use Rattle.cg_desc_choices.specs.Choices.{with_choices}
use Rattle.cg_desc_choices.specs.Ways.{each_choice}
use Rattle.cg_desc_choices.specs.Walking.{seen_way}
use Rattle.cg_desc_choices.proofs.ways.each_choice.Given as goal

-- what stands, with what is left, is the whole
abbrev pub invariant-loop-way : goal.invariant-loop-way
invariant-loop-way l = l.list ++ map (λ cs. with_choices cs l.instruction) (map seen_way (drop l.way-index l.way-items)) ≡ l.initial.list ++ each_choice l.anyofs l.instruction
