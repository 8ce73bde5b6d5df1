use Rattle.std.proofs.Common.{◌≡◌, map, drop}
use Rattle.std.specs.List.{list_any}
use Rattle.cg_model.specs.Placed.{delays_itself}
use Rattle.cg_modes_leaf.proofs.search.+delays_itself.Given as goal

-- one stands in what is left exactly where it stands in the whole
abbrev pub invariant-loop-item : goal.invariant-loop-item
invariant-loop-item l = list_any (λ b. b) (map delays_itself (drop l.item-index l.item-items)) ≡ delays_itself l.rtl
