use Rattle.cg_code.proofs.Filled.{put_split, put_fits, put_numbers, put_more}
use Rattle.cg_code.proofs.putting.in_place.Goals as goal

pub put_part-slot-requires-clause-fits : goal.put_part-slot-requires-clause-fits
put_part-slot-requires-clause-fits c = put_fits _ _ _ _ _ _ _ _ (put_split _ _ _ _ _ _ _ _ _ c.loop-part-test.true c.loop-part.invariant)

pub put_part-slot-requires-clause-values : goal.put_part-slot-requires-clause-values
put_part-slot-requires-clause-values c = put_numbers _ _ _ _ _ _ _ _ (put_split _ _ _ _ _ _ _ _ _ c.loop-part-test.true c.loop-part.invariant)

pub loop-part-preserved : goal.loop-part-preserved
loop-part-preserved c = put_more _ _ _ _ _ _ _ _ _ _ (put_split _ _ _ _ _ _ _ _ _ c.loop-part-test.true c.loop-part.invariant) c.put_part-slot.ensures.next c.put_part-slot.ensures.put
