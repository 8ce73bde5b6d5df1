use Rattle.std.proofs.Common.{◌≡◌, drop, map}
use Rattle.cg_desc_choices.specs.Choices.{seen_chosen, choice_for}
use Rattle.cg_desc_choices.proofs.choosing.choice_for.Given as goal

-- what is left has the choice as the whole
abbrev pub invariant-loop-each : goal.invariant-loop-each
invariant-loop-each l = choice_for l.name (map seen_chosen (drop l.each-index l.chosen)) ≡ choice_for l.name (map seen_chosen l.chosen)
