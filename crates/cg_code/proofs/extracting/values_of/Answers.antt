use Rattle.cg_code.proofs.Holding.{fill_split, fill_inside, fill_room, fill_more}
use Rattle.cg_code.proofs.extracting.values_of.Goals as goal

pub with_part-all-requires-clause-inside : goal.with_part-all-requires-clause-inside
with_part-all-requires-clause-inside c = fill_inside _ _ _ _ _ _ _ (fill_split _ _ _ _ _ _ _ _ c.loop-part-test.true c.loop-part.invariant)

pub with_part-all-requires-clause-room : goal.with_part-all-requires-clause-room
with_part-all-requires-clause-room c = fill_room _ _ _ _ _ _ _ (fill_split _ _ _ _ _ _ _ _ c.loop-part-test.true c.loop-part.invariant)

pub loop-part-preserved : goal.loop-part-preserved
loop-part-preserved c = fill_more _ _ _ _ _ _ _ _ (fill_split _ _ _ _ _ _ _ _ c.loop-part-test.true c.loop-part.invariant) c.with_part-all.ensures
