-- An access of the slot that it reaches is an access of the bus.
use Rattle.std.proofs.Common.{◌≡◌, ℕ, ◌-◌, List, slice_get, slice_set, IfErr, Result, Some, refl}
use Rattle.cg_base.specs.Accesses.{Access, DeviceState, Accessed}
use Rattle.cg_bus.specs.Slots.{reached, first_of, Asks}
use Rattle.cg_bus.specs.declared.fault.BusFault.{BusFault}
use Rattle.cg_bus.specs.declared.fault.BusFault.TheVariants.{DeviceFailed}
use Rattle.cg_bus.specs.declared.range.Range.{Range}

pub asks_made : {S : Type 0} {A : Type 0} (range : S → Range) (state : S → DeviceState) (top address width k : ℕ) (access : ℕ → Access) (old : List S) (s t : S) (result : Result A BusFault) → reached range top address width old ≡ Some k → slice_get old k ≡ Some s → range t ≡ range s → Accessed (access (address - first_of top (range s))) (state s) (state t) → IfErr result (λ fault. fault ≡ DeviceFailed) → Asks range state top address width access old (slice_set old k t) result
asks_made range state top address width k access old s t result place found stays asked fault =
    record { by_slot = rw place (record { before = s; after = t; found = found; put = refl; stays = stays; asked = asked }, fault) }
