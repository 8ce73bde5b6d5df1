use Rattle.cg_tree.proofs.Trying.{all_counted}
use Rattle.cg_tree.proofs.finding.first_match.Goals as goal

pub returns-clause-ticked : goal.returns-clause-ticked
returns-clause-ticked c = all_counted _ _ _ _ _ _ _ c.loop-k-test.false c.loop-k.steps.small c.loop-k.invariant
