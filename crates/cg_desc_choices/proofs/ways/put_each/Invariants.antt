use Rattle.std.proofs.Common.{◌≡◌, ◌≤◌, ◌++◌, drop, map, take, length}
use Rattle.cg_desc_choices.specs.Choices.{seen_chosen}
use Rattle.cg_desc_choices.specs.Ways.{and_chosen, with_each, most}
use Rattle.cg_desc_choices.specs.Walking.{seen_way}
use Rattle.cg_desc_choices.proofs.ways.put_each.Given as goal

-- those that stand, with those of what is left, begin as the whole does
abbrev pub invariant-loop-choice : goal.invariant-loop-choice
invariant-loop-choice l = record {
  room : length l.list ≤ most;
  same : take most (map seen_way l.list ++ map (and_chosen l.anyof.operand (map seen_chosen l.way)) (drop l.choice-index l.choice-items)) ≡ take most (map seen_way l.initial.list ++ with_each l.anyof (map seen_chosen l.way));
}
