use Rattle.std.proofs.Common.{◌≡◌, ◌+◌, max, map, drop}
use Rattle.cg_pmacro_builtin.specs.Sizes.{levels, greatest_of}
use Rattle.cg_pmacro_builtin.proofs.sizes.+levels.Given as goal

-- the rest gives what the whole gives
abbrev pub invariant-loop-item : goal.invariant-loop-item
invariant-loop-item l = max l.depth (greatest_of (map levels (drop l.item-index l.item-items))) + 1 ≡ levels l.body
