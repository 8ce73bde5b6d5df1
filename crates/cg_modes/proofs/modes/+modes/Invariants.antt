use Rattle.std.proofs.Common.{◌≡◌, map, take, drop}
use Rattle.cg_model.specs.Checked.{checked, each_any, each_dropped, in_order, each_value, each_part, all_but_last}
use Rattle.cg_modes_leaf.specs.Scope.{locals_of}
use Rattle.cg_modes.specs.Arms.{walked, valueless}
use Rattle.cg_modes.proofs.modes.+modes.Given as goal

abbrev pub invariant-each_any-loop-item : goal.invariant-each_any-loop-item
invariant-each_any-loop-item l = each_any (locals_of l.scope) (map (checked l.machine) (drop l.item-index l.items)) ≡ each_any (locals_of l.scope) (map (checked l.machine) l.items)

abbrev pub invariant-each_dropped-loop-item : goal.invariant-each_dropped-loop-item
invariant-each_dropped-loop-item l = each_dropped (locals_of l.scope) (map (checked l.machine) (drop l.item-index l.items)) ≡ each_dropped (locals_of l.scope) (map (checked l.machine) l.items)

abbrev pub invariant-in_order-loop-i : goal.invariant-in_order-loop-i
invariant-in_order-loop-i l = in_order (locals_of l.scope) l.want (map (checked l.machine) (drop l.i l.items)) ≡ in_order (locals_of l.scope) l.want (map (checked l.machine) (drop l.from l.items))

abbrev pub invariant-first_dropped-loop-i : goal.invariant-first_dropped-loop-i
invariant-first_dropped-loop-i l =
    each_dropped (locals_of l.scope) (map (checked l.machine) (drop l.i (take l.count l.items))) ≡ each_dropped (locals_of l.scope) (map (checked l.machine) (take l.count l.items))

abbrev pub invariant-each_part-loop-i : goal.invariant-each_part-loop-i
invariant-each_part-loop-i l =
    each_part (locals_of l.scope) l.part (map (checked l.machine) (drop l.i l.items)) ≡ each_part (locals_of l.scope) l.part (map (checked l.machine) (drop 1 l.items))

abbrev pub invariant-first_tests-loop-i : goal.invariant-first_tests-loop-i
invariant-first_tests-loop-i l = each_value (locals_of l.scope) (map (checked l.machine) (drop l.i (take l.count l.items))) ≡ each_value (locals_of l.scope) (map (checked l.machine) (take l.count l.items))

abbrev pub invariant-all_but_last-loop-i : goal.invariant-all_but_last-loop-i
invariant-all_but_last-loop-i l = all_but_last (locals_of l.scope) (map (checked l.machine) (drop l.i l.items)) ≡ all_but_last (locals_of l.scope) (map (checked l.machine) (drop l.from l.items))

abbrev pub invariant-each_arm-loop-i : goal.invariant-each_arm-loop-i
invariant-each_arm-loop-i l = walked l.machine (locals_of l.scope) l.tested l.written l.lead l.want (drop l.i l.items) ≡ walked l.machine (locals_of l.scope) l.tested l.written l.lead l.want (drop l.from l.items)

abbrev pub invariant-valueless-loop-i : goal.invariant-valueless-loop-i
invariant-valueless-loop-i l = valueless l.machine (locals_of l.scope) l.tested (drop l.i l.items) ≡ valueless l.machine (locals_of l.scope) l.tested (drop l.from l.items)
