use Rattle.std.proofs.Common.{◌≡◌, ◌+◌, ◌*◌, drop}
use Rattle.cg_model.specs.Placed.{nodes_to, nodes_of_items}
use Rattle.cg_modes_leaf.specs.Counted.{left_of}
use Rattle.cg_modes_leaf.proofs.size.+counting.Given as goal

abbrev pub decreases-left : goal.decreases-left
decreases-left l = 2 * l.depth

abbrev pub decreases-left_by_items : goal.decreases-left_by_items
decreases-left_by_items l = 2 * l.depth + 1

-- what is left of the items leaves what all would
abbrev pub invariant-left_by_items-loop-item : goal.invariant-left_by_items-loop-item
invariant-left_by_items-loop-item l = left_of l.rest (nodes_of_items (nodes_to l.machine l.depth) l.place (drop l.item-index l.items)) ≡ left_of l.count (nodes_of_items (nodes_to l.machine l.depth) l.is_place l.items)
