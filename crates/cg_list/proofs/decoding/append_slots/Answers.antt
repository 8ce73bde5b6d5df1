use Rattle.cg_list.proofs.Decoded.{put_more, put_split}
use Rattle.cg_list.proofs.decoding.append_slots.Goals as goal

pub loop-part-preserved : goal.loop-part-preserved
loop-part-preserved c = put_more _ _ _ _ _ _ _ _ _ _ c.in_ok-rest.ensures.text c.in_ok-rest.ensures.rest (put_split _ _ _ _ _ _ _ _ _ c.loop-part-test.true c.loop-part.invariant)
