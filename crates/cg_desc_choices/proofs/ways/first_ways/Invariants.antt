use Rattle.std.proofs.Common.{◌≡◌, ◌≤◌, drop, map, take, length}
use Rattle.cg_desc_choices.specs.Ways.{ways_behind, ways, most}
use Rattle.cg_desc_choices.specs.Walking.{seen_way}
use Rattle.cg_desc_choices.proofs.ways.first_ways.Given as goal

-- the ways behind those so far begin as all ways do
abbrev pub invariant-loop-anyof : goal.invariant-loop-anyof
invariant-loop-anyof l = record {
  room : length l.so_far ≤ most;
  same : take most (ways_behind (map seen_way l.so_far) (drop l.anyof-index l.anyofs)) ≡ take most (ways l.anyofs);
}
