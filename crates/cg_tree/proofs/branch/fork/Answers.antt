use Rattle.cg_tree.proofs.Shapes.{is_fork}
use Rattle.cg_tree.proofs.branch.fork.Goals as goal

pub returns : goal.returns
returns c = is_fork _ _ _ _ _ c.in_ok-clear.ensures c.in_ok-set.ensures
