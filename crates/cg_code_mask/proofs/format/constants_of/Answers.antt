use Rattle.cg_code_mask.proofs.Formats.{gather}
use Rattle.cg_code_mask.proofs.format.constants_of.Goals as goal

pub loop-part-preserved : goal.loop-part-preserved
loop-part-preserved c = gather _ _ _ _ _ _ _ _ _ c.loop-part-test.true c.loop-part.invariant c.part_constants-own.ensures.cover c.part_constants-own.ensures.value
