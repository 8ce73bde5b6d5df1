use Rattle.cg_tree.proofs.Shapes.{no_tests_there}
use Rattle.cg_tree.proofs.branch.+reach.Goals as goal

pub returns-in-Leaf-clause-ticked : goal.returns-in-Leaf-clause-ticked
returns-in-Leaf-clause-ticked t c = no_tests_there _ _ c.args.whole _ c.in-Leaf.is c.args.steps.now.small
