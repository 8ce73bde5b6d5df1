use Rattle.std.proofs.Common.{◌≡◌, ◌+◌, drop}
use Rattle.cg_model.proofs.rtl.Rtl.TheLaws.{the_size}
use Rattle.cg_modes_leaf.specs.Delaying.{delays_by, items_delay_by}
use Rattle.cg_modes_leaf.proofs.Sizes.{left}
use Rattle.cg_modes_leaf.proofs.search.+stepping.Given as goal

abbrev pub decreases-delays_by : goal.decreases-delays_by
decreases-delays_by l = left l.machine.now l.steps (the_size l.rtl.now) + 2

abbrev pub decreases-node_delays_by : goal.decreases-node_delays_by
decreases-node_delays_by l = left l.machine.now l.steps 0 + 1

abbrev pub decreases-rule_delays : goal.decreases-rule_delays
decreases-rule_delays l = left l.machine.now l.steps 0

-- what is left has one exactly where the whole has
abbrev pub invariant-delays_by-loop-item : goal.invariant-delays_by-loop-item
invariant-delays_by-loop-item l = items_delay_by l.machine l.steps l.place (drop l.item-index l.item-items) ≡ delays_by l.machine l.steps l.is_place l.rtl
