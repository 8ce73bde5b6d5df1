-- Where devices stand on a bus, and which of them an access reaches. A slot is seen by its range and by all that is known of
-- its device; the top is 2 ^ word.
use Rattle.std.specs.Prelude.{◌≡◌, ℕ, ◌+◌, ◌-◌, ◌%◌, Bool, true, false, ◌&&◌, ◌||◌, nat_le, nat_lt, List, Option, MatchOption, IfErr, position, slice_get, slice_set, Some, Result, Err}
use Rattle.std.specs.List.{list_all, AllPairs}
use Rattle.cg_base.specs.Accesses.{Access, DeviceState, Accessed}
use Rattle.cg_bus.specs.declared.fault.AttachFault.{AttachFault}
use Rattle.cg_bus.specs.declared.fault.AttachFault.TheVariants.{Overlap, NoMemory}
use Rattle.cg_bus.specs.declared.fault.BusFault.{BusFault}
use Rattle.cg_bus.specs.declared.fault.BusFault.TheVariants.{Nowhere, DeviceFailed}
use Rattle.cg_bus.specs.declared.range.Range.{Range}
use Rattle.cg_bus.specs.declared.slot.Slot.{Slot}

-- where a slot stands
abbrev pub range_of : {X : Type 0} {F : X → Type 0} → Slot X F → Range
range_of slot = record { below_top = slot.below_top; len = slot.len }

-- the first address of a range, and the one behind its last
abbrev pub first_of : ℕ → Range → ℕ
first_of top r = top - r.below_top

abbrev pub end_of : ℕ → Range → ℕ
end_of top r = first_of top r + r.len

-- whether an access of so many bytes at an address lies whole in a range
abbrev pub covers : ℕ → ℕ → ℕ → Range → Bool
covers top address width r = nat_le (first_of top r) address && nat_le (address + width) (end_of top r)

-- whether a range has addresses, all of them below the top and behind RAM
abbrev pub fits : ℕ → ℕ → Range → Bool
fits top ram r = nat_lt 0 r.len && nat_le r.len r.below_top && nat_le r.below_top top && nat_le ram (first_of top r)

-- whether two ranges have no address in common: the one ends where the other begins, or before it
abbrev pub are_apart : ℕ → Range → Range → Bool
are_apart top a b = nat_le (end_of top a) (first_of top b) || nat_le (end_of top b) (first_of top a)

-- whether a slot of this range may be attached beside these
abbrev pub is_free : ℕ → ℕ → Range → List Range → Bool
is_free top ram r rs = fits top ram r && list_all (are_apart top r) rs

-- no two slots have an address in common
abbrev pub AreApart : {S : Type 0} → (S → Range) → ℕ → List S → Type 0
AreApart range top slots = AllPairs (λ s t. are_apart top (range s) (range t) ≡ true) slots

-- the first address of a range that may begin below 0 or at the top: modulo the top
abbrev pub first_modulo : ℕ → Range → ℕ
first_modulo top r = (top - r.below_top % top) % top

-- why a slot wasn't attached
abbrev pub RefusesSlot : ℕ → ℕ → Range → List Range → AttachFault → Type 0
RefusesSlot top ram r rs (Overlap first len) = (is_free top ram r rs ≡ false) × (first ≡ first_modulo top r) × (len ≡ r.len)
RefusesSlot top ram r rs NoMemory = Unit {0}

-- the place in order of the slot in which an access lies whole
abbrev pub reached : {S : Type 0} → (S → Range) → ℕ → ℕ → ℕ → List S → Option ℕ
reached range top address width slots = position (λ s. covers top address width (range s)) slots

-- an access lies whole in the k-th slot
abbrev pub Holds : {S : Type 0} → (S → Range) → ℕ → ℕ → ℕ → List S → ℕ → Type 0
Holds {S} range top address width slots k = (s : S) × (slice_get slots k ≡ Some s) × (covers top address width (range s) ≡ true)

-- an access lies whole in one slot at most
abbrev pub HasOneHolder : {S : Type 0} → (S → Range) → ℕ → ℕ → ℕ → List S → Type 0
HasOneHolder range top address width slots = (i j : ℕ) → Holds range top address width slots i → Holds range top address width slots j → i ≡ j

-- one access of the device of the k-th slot, at the offset from the slot's first address, and of no other. The slot stays
-- where it is
pub record AsksAt {S : Type 0} (range : S → Range) (state : S → DeviceState) (top address k : ℕ) (access : ℕ → Access) (old new : List S) : Type 0 where
  pub before : S
  pub after : S
  pub found : slice_get old k ≡ Some before
  pub put : new ≡ slice_set old k after
  pub stays : range after ≡ range before
  pub asked : Accessed (access (address - first_of top (range before))) (state before) (state after)

-- one access of the one device whose slot holds it, or none where no slot does
pub record Asks {S : Type 0} {A : Type 0} (range : S → Range) (state : S → DeviceState) (top address width : ℕ) (access : ℕ → Access) (old new : List S) (result : Result A BusFault) : Type 0 where
  pub by_slot : MatchOption (reached range top address width old)
      ((result ≡ Err Nowhere) × (new ≡ old))
      (λ k. AsksAt range state top address k access old new × IfErr result (λ fault. fault ≡ DeviceFailed))
