use Rattle.cg_tree.proofs.Masks.{mask_more}
use Rattle.cg_tree.proofs.asking.telling.Goals as goal

pub loop-k-preserved : goal.loop-k-preserved
loop-k-preserved c = mask_more _ _ _ _ _ _ _ _ _ c.loop-k-test.true c.loop-k.invariant c.told_by-own.ensures.zeros c.told_by-own.ensures.ones
