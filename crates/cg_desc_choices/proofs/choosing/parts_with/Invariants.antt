use Rattle.std.proofs.Common.{◌≡◌, ◌++◌, drop, map}
use Rattle.std.specs.List.{flat_map}
use Rattle.cg_desc_choices.specs.Choices.{seen_chosen, parts_for}
use Rattle.cg_desc_choices.proofs.choosing.parts_with.Given as goal

-- what stands, with what is left, is the whole
abbrev pub invariant-loop-part : goal.invariant-loop-part
invariant-loop-part l = l.list ++ flat_map (parts_for (map seen_chosen l.chosen)) (drop l.part-index l.parts) ≡ flat_map (parts_for (map seen_chosen l.chosen)) l.parts
