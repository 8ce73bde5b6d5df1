use Rattle.std.proofs.Common.{arith}
use Rattle.cg_ambig_pattern.proofs.InOrder.{none_at_all, first_behind}
use Rattle.cg_ambig_pattern.proofs.first.first_with.Goals as goal

pub returns-in-Some : goal.returns-in-Some
returns-in-Some g c = first_behind _ _ _ _ _ _ (omega arith) c.loop-second-test.true c.loop-second.invariant c.in-Some.ensures

pub returns : goal.returns
returns g c = none_at_all _ _ _ _ c.loop-second-test.false c.loop-second.invariant
