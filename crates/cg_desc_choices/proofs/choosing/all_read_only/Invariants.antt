use Rattle.std.proofs.Common.{◌≡◌, ◌++◌, drop, map}
use Rattle.cg_desc_choices.specs.Choices.{seen_chosen, read_only}
use Rattle.cg_desc_choices.proofs.choosing.all_read_only.Given as goal

-- what stands, with what is left, is the whole
abbrev pub invariant-loop-each : goal.invariant-loop-each
invariant-loop-each l = l.list ++ map read_only (map seen_chosen (drop l.each-index l.chosen)) ≡ map read_only (map seen_chosen l.chosen)
