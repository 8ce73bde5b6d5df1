use Rattle.std.proofs.Common.{◌≡◌, ◌++◌}
use Rattle.cg_demo.specs.Demo.{instructions, after}
use Rattle.cg_demo.proofs.description.put_instructions.Given as goal

abbrev pub invariant-loop-k : goal.invariant-loop-k
invariant-loop-k l = (l.text ≡ l.fn.text ++ instructions l.fn.draws.state l.k) × (l.draws.state ≡ after l.k l.fn.draws.state)
