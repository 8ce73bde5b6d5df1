use Rattle.std.proofs.Common.{◌≡◌, drop, map}
use Rattle.std.specs.List.{list_all}
use Rattle.cg_bus.specs.Slots.{are_apart, range_of}
use Rattle.cg_bus.proofs.bus.Bus.meets_none.Given as goal

abbrev pub invariant-loop-slot : goal.invariant-loop-slot
invariant-loop-slot g l = list_all (are_apart l.self.top l.range) (map range_of (drop l.slot-index l.self.slots.items)) ≡ list_all (are_apart l.self.top l.range) (map range_of l.self.slots.items)
