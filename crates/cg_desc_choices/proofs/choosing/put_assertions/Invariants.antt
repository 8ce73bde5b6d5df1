use Rattle.std.proofs.Common.{◌≡◌, ◌++◌, drop}
use Rattle.cg_desc_choices.proofs.choosing.put_assertions.Given as goal

-- what stands, with what is left, is the whole
abbrev pub invariant-loop-assertion : goal.invariant-loop-assertion
invariant-loop-assertion l = l.list ++ drop l.assertion-index l.assertions ≡ l.initial.list ++ l.assertions
