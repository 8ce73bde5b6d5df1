use Rattle.std.proofs.Common.{◌+◌, ◌≤◌, ◌↔◌, map, drop}
use Rattle.cg_pmacro_builtin.specs.Sizes.{lists, greatest_of}
use Rattle.cg_pmacro_builtin.proofs.sizes.+is_within.Given as goal

-- the rest gives what the whole gives
abbrev pub invariant-loop-item : goal.invariant-loop-item
invariant-loop-item l = lists l.value ≤ l.most ↔ greatest_of (map lists (drop l.item-index l.item-items)) + 1 ≤ l.most
