use Rattle.std.proofs.Common.{◌≡◌, suc, nat_le, drop, map}
use Rattle.cg_model.specs.Formed.{greatest, depth}
use Rattle.cg_desc_check_values.proofs.standing.+is_shallow.Given as goal

abbrev pub invariant-loop-item : goal.invariant-loop-item
invariant-loop-item l = nat_le (suc (greatest (map depth (drop l.item-index l.item-items)))) l.levels ≡ nat_le (depth l.rtl) l.levels
