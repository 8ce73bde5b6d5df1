use Rattle.std.proofs.Common.{◌≡◌, ◌++◌, drop, map}
use Rattle.cg_desc_choices.specs.Choices.{seen_chosen, assertions_of}
use Rattle.cg_desc_choices.proofs.choosing.put_chosen.Given as goal

-- what stands, with what is left, is the whole
abbrev pub invariant-loop-each : goal.invariant-loop-each
invariant-loop-each l = l.list ++ assertions_of l.parts (map seen_chosen (drop l.each-index l.chosen)) ≡ l.initial.list ++ assertions_of l.parts (map seen_chosen l.chosen)
