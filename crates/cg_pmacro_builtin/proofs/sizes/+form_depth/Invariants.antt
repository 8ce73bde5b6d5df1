use Rattle.std.proofs.Common.{◌≡◌, ◌+◌, max, map, drop}
use Rattle.cg_pmacro_builtin.specs.Sizes.{lists, greatest_of}
use Rattle.cg_pmacro_builtin.proofs.sizes.+form_depth.Given as goal

-- the rest gives what the whole gives
abbrev pub invariant-loop-item : goal.invariant-loop-item
invariant-loop-item l = max l.depth (greatest_of (map lists (drop l.item-index l.item-items))) + 1 ≡ lists l.value
