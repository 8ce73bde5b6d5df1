use Rattle.std.proofs.Common.{◌≡◌, ◌++◌, drop, map}
use Rattle.std.specs.List.{flat_map}
use Rattle.cg_desc_choices.specs.Choices.{seen_chosen, behind_dash, name_with}
use Rattle.cg_desc_choices.proofs.choosing.name_with.Given as goal

-- what stands, with what is left, is the whole
abbrev pub invariant-loop-each : goal.invariant-loop-each
invariant-loop-each l = l.new ++ flat_map behind_dash (map seen_chosen (drop l.each-index l.chosen)) ≡ name_with (map seen_chosen l.chosen) l.name
