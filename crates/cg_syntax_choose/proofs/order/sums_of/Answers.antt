use Rattle.cg_syntax_choose.specs.Ordering.{filled_sums}
use Rattle.cg_syntax_choose.proofs.OrderLemmas.{slot_more}
use Rattle.cg_syntax_choose.proofs.order.sums_of.Goals as goal

pub loop-slot-preserved : goal.loop-slot-preserved
loop-slot-preserved c =
    slot_more c.args.operands.now c.args.found.now c.loop-slot.slot c.in_ok-sum.sum c.loop-slot.sums c.push.new.self (filled_sums 0 c.args.operands.now c.args.found.now) c.loop-slot-test.true c.in_ok-sum.ensures c.in_ok-push.ensures.ok c.loop-slot.invariant
