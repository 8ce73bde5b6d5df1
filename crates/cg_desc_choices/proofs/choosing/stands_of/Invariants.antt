use Rattle.std.proofs.Common.{◌≡◌, ◌++◌, drop, map}
use Rattle.cg_desc_choices.specs.Choices.{seen_chosen, stand}
use Rattle.cg_desc_choices.proofs.choosing.stands_of.Given as goal

-- what stands, with what is left, is the whole
abbrev pub invariant-loop-each : goal.invariant-loop-each
invariant-loop-each l = l.list ++ map stand (map seen_chosen (drop l.each-index l.chosen)) ≡ map stand (map seen_chosen l.chosen)
