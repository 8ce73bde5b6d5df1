use Rattle.std.proofs.Common.{◌≡◌, ◌++◌, drop, map}
use Rattle.cg_desc_choices.specs.Choices.{seen_chosen}
use Rattle.cg_desc_choices.proofs.ways.and_chosen.Given as goal

-- what stands, with what is left, is the whole
abbrev pub invariant-loop-each : goal.invariant-loop-each
invariant-loop-each l = map seen_chosen l.new ++ map seen_chosen (drop l.each-index l.way) ≡ map seen_chosen l.way
