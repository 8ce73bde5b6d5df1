use Rattle.std.proofs.Common.{◌+◌, ◌*◌, drop}
use Rattle.cg_modes_leaf.proofs.Reaching.{LeftOf}
use Rattle.cg_modes_leaf.proofs.search.+searching.Given as goal

abbrev pub decreases-left : goal.decreases-left
decreases-left l = 3 * l.depth

abbrev pub decreases-left_by_items : goal.decreases-left_by_items
decreases-left_by_items l = 3 * l.depth + 1

abbrev pub decreases-left_by_node : goal.decreases-left_by_node
decreases-left_by_node l = 3 * l.depth + 2

-- those before have none
abbrev pub invariant-left_by_items-loop-item : goal.invariant-left_by_items-loop-item
invariant-left_by_items-loop-item l = LeftOf l.machine l.is_place l.place l.items (drop l.item-index l.items)
