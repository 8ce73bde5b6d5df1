use Rattle.cg_desc_fault_count.proofs.Walks.{first_here, first_later}
use Rattle.cg_desc_fault_count.proofs.shapes.first_of_pieces.Goals as goal

pub returns-in-Some : goal.returns-in-Some
returns-in-Some c = first_here _ _ _ _ _ _ _ _ c.loop-written-test.true c.written-item.is c.in_ok-passed.ensures c.in-Some.is c.loop-written.invariant

pub loop-written-preserved : goal.loop-written-preserved
loop-written-preserved c = first_later _ _ _ _ _ _ _ c.loop-written-test.true c.written-item.is c.in_ok-passed.ensures c.in_default.is c.loop-written.invariant
