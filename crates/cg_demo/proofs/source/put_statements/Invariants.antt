use Rattle.std.proofs.Common.{◌≡◌, ◌*◌, ◌++◌}
use Rattle.cg_demo.specs.Demo.{statements, after}
use Rattle.cg_demo.proofs.source.put_statements.Given as goal

abbrev pub invariant-loop-i : goal.invariant-loop-i
invariant-loop-i l = (l.text ≡ l.fn.text ++ statements l.count l.fn.draws.state l._i) × (l.draws.state ≡ after (4 * l._i) l.fn.draws.state)
