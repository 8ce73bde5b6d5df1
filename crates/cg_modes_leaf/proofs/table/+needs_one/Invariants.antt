use Rattle.std.proofs.Common.{◌≡◌, map, drop}
use Rattle.cg_model.specs.Placed.{each_needed, needed_by, one_delays}
use Rattle.cg_modes_leaf.specs.Delaying.{in_table}
use Rattle.cg_modes_leaf.proofs.table.+needs_one.Given as goal

-- what is left needs one exactly where the whole does
abbrev pub invariant-loop-item : goal.invariant-loop-item
invariant-loop-item l =
    one_delays (in_table l.table) (each_needed l.place (map (needed_by l.machine) (drop l.item-index l.item-items))) ≡ one_delays (in_table l.table) (needed_by l.machine l.rtl l.is_place)
