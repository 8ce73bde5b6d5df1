use Rattle.std.proofs.Common.{◌∙◌}
use Rattle.cg_tree.proofs.Parting.{grown_leaf, grown_fork}
use Rattle.cg_tree.proofs.growing.+grow.Goals as goal

pub returns-in_ok-fork-in-Some : goal.returns-in_ok-fork-in-Some
returns-in_ok-fork-in-Some t c = grown_fork _ _ _ _ _ _ _ _ _ _ _ c.in-Some.ensures (c.as_slice.ensures ∙ c.in_ok-clear-in-Some.ensures) (c.as_slice-in-Some.ensures ∙ c.in_ok-set-in-Some.ensures) c.in_ok-low-in-Some.ensures c.in_ok-high-in-Some.ensures c.in_ok-fork-in-Some.ensures

pub returns-in_ok-leaf-in-None : goal.returns-in_ok-leaf-in-None
returns-in_ok-leaf-in-None t c = grown_leaf _ _ _ _ c.in-None.ensures c.in_ok-leaf-in-None.ensures
