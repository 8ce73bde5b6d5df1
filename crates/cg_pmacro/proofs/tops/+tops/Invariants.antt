use Rattle.std.proofs.Common.{◌≡◌, ◌+◌, ◌*◌, drop}
use Rattle.cg_pmacro_builtin.specs.Outcome.{each_joined}
use Rattle.cg_pmacro_builtin.proofs.Fronts.{in_front}
use Rattle.cg_pmacro.specs.Tops.{top_to, state}
use Rattle.cg_pmacro.proofs.tops.+tops.Given as goal

abbrev pub decreases-expand_part : goal.decreases-expand_part
decreases-expand_part l = 2 * l.depth

abbrev pub decreases-expand_parts : goal.decreases-expand_parts
decreases-expand_parts l = 2 * l.depth + 1

-- the rest gives what the whole gives
abbrev pub invariant-expand_parts-loop-item : goal.invariant-expand_parts-loop-item
invariant-expand_parts-loop-item l =
    in_front l.done (each_joined (top_to l.depth) (drop l.item-index l.item-items) (state l.macros l.left)) ≡ each_joined (top_to l.depth) l.item-items (state l.initial.macros l.initial.left)
