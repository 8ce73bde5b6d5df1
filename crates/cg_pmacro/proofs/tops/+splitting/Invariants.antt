use Rattle.std.proofs.Common.{◌≡◌, ◌+◌, ◌*◌, drop}
use Rattle.cg_pmacro_builtin.proofs.Fronts.{answer_in_front}
use Rattle.cg_pmacro.specs.Splitting.{split_each, split_to}
use Rattle.cg_pmacro.proofs.tops.+splitting.Given as goal

abbrev pub decreases-split : goal.decreases-split
decreases-split l = 2 * l.depth

abbrev pub decreases-split_parts : goal.decreases-split_parts
decreases-split_parts l = 2 * l.depth + 1

-- the rest gives what the whole gives
abbrev pub invariant-split_parts-loop-item : goal.invariant-split_parts-loop-item
invariant-split_parts-loop-item l =
    answer_in_front l.done (split_each (split_to l.depth) (drop l.item-index l.item-items)) ≡ split_each (split_to l.depth) l.item-items
