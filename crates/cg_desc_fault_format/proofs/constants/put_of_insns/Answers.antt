use Rattle.cg_desc_fault_format.proofs.Putting.{put_next}
use Rattle.cg_desc_fault_format.proofs.constants.put_of_insns.Goals as goal

pub loop-written-preserved : goal.loop-written-preserved
loop-written-preserved c = put_next _ _ _ _ _ _ _ c.loop-written-test.true c.written-item.is c.in_ok-put_of_written.ensures c.loop-written.invariant
