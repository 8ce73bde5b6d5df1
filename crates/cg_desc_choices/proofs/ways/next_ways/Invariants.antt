use Rattle.std.proofs.Common.{◌≡◌, ◌≤◌, ◌++◌, drop, map, take, length}
use Rattle.std.specs.List.{flat_map}
use Rattle.cg_desc_choices.specs.Ways.{with_each, most}
use Rattle.cg_desc_choices.specs.Walking.{seen_way}
use Rattle.cg_desc_choices.proofs.ways.next_ways.Given as goal

-- those that stand, with those of what is left, begin as the whole does
abbrev pub invariant-loop-way : goal.invariant-loop-way
invariant-loop-way l = record {
  room : length l.list ≤ most;
  same : take most (map seen_way l.list ++ flat_map (with_each l.anyof) (map seen_way (drop l.way-index l.so_far))) ≡ take most (flat_map (with_each l.anyof) (map seen_way l.so_far));
}
