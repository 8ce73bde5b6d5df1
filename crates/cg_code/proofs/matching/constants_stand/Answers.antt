use Rattle.std.proofs.Common.{sym, ◌∙◌}
use Rattle.cg_code.proofs.Ends.{standing_split, stand_inside, stand_more}
use Rattle.cg_code.proofs.matching.constants_stand.Goals as goal

pub part_stands-requires-clause-inside : goal.part_stands-requires-clause-inside
part_stands-requires-clause-inside c = stand_inside _ _ _ _ _ (standing_split _ _ _ _ _ _ c.loop-part-test.true c.loop-part.invariant)

pub loop-part-preserved : goal.loop-part-preserved
loop-part-preserved c = stand_more _ _ _ _ _ (sym c.part_stands.ensures ∙ c.if-not-part_stands.false) (standing_split _ _ _ _ _ _ c.loop-part-test.true c.loop-part.invariant)
