-- What a device is asked, and what that does to all that is known of the device.
use Rattle.std.specs.Prelude.{◌≡◌, ℕ, ◌+◌, ◌^◌, ◌%◌, ◌≤◌, ◌<◌, Bool, true, false, List, [], ◌∷◌, ◌++◌, length, Option, Some, None, Result, Ok, Err}
use Rattle.cg_base.specs.Counts.{Rose}

-- One access of a device: whether it was a write or a read, how many addresses behind the first of the device it began, how
-- many bytes wide it was, the value that was written or read, which is 0 where a read failed, and whether it failed.
pub record Access : Type 0 where
  pub write : Bool
  pub offset : ℕ
  pub width : ℕ
  pub value : ℕ
  pub failed : Bool

-- The access that a read made, by what it answered.
abbrev pub read_access : {E : Type 0} → ℕ → ℕ → Result ℕ E → Access
read_access offset width (Ok value) = record { write = false; offset = offset; width = width; value = value; failed = false }
read_access offset width (Err fault) = record { write = false; offset = offset; width = width; value = 0; failed = true }

-- The access that a write of this value made, by what it answered.
abbrev pub write_access : {E : Type 0} → ℕ → ℕ → ℕ → Result (Unit {0}) E → Access
write_access offset width value (Ok done) = record { write = true; offset = offset; width = width; value = value; failed = false }
write_access offset width value (Err fault) = record { write = true; offset = offset; width = width; value = value; failed = true }

-- What a device promises of each of its accesses: nothing, what a console promises, or what a ticker does.
pub data Law : Type 0 where
  NoLaw : Law
  ConsoleLaw : Law
  TickerLaw : Law

-- All that is known of a device: its accesses so far, in order, where it tells them; the bytes that it shows; how many of its
-- accesses failed; its law; and the number that a ticker answers next.
pub record DeviceState : Type 0 where
  pub past : Option (List Access)
  pub shown : List ℕ
  pub faults : ℕ
  pub law : Law
  pub tick : ℕ

-- An access that failed raised the count.
abbrev pub RoseWhere : Bool → ℕ → ℕ → Type 0
RoseWhere true before now = Rose before now
RoseWhere false before now = Unit {0}

-- A past that is told grew by this access. A device may cease to tell its past, and never begins again.
abbrev pub GrewBy : Access → Option (List Access) → Option (List Access) → Type 0
GrewBy access before None = Unit {0}
GrewBy access None (Some now) = ⊥
GrewBy access (Some before) (Some now) = now ≡ before ++ access ∷ []

-- A console shows the lowest byte of each value that is written to it.
abbrev pub shows : List ℕ → ℕ → List ℕ
shows shown value = shown ++ (value % 256) ∷ []

-- How many bytes a console shows at most.
abbrev pub console_room : ℕ
console_room = 65536

-- The law of a console: a read answers 0. A write fails exactly where the console is full, and else the lowest byte of its
-- value is shown. Nothing else changes what is shown. By whether the access was a write, and whether it failed.
abbrev pub KeepsConsole : Bool → Bool → ℕ → List ℕ → List ℕ → Type 0
KeepsConsole false false value shown now = (value ≡ 0) × (now ≡ shown)
KeepsConsole false true value shown now = ⊥
KeepsConsole true false value shown now = (length shown < console_room) × (now ≡ shows shown value)
KeepsConsole true true value shown now = (length shown ≡ console_room) × (now ≡ shown)

-- The law of a ticker: no access fails. A read answers its number, as far as the width goes, and then adds 1 to it. A write
-- sets it. By whether the access was a write, and whether it failed.
abbrev pub KeepsTicker : Bool → Bool → ℕ → ℕ → ℕ → ℕ → Type 0
KeepsTicker false false width value tick now = (value ≡ tick % 256 ^ width) × (now ≡ (tick + 1) % 2 ^ 64)
KeepsTicker true false width value tick now = now ≡ value
KeepsTicker write true width value tick now = ⊥

-- This access of a device with this law keeps the law, from what the device showed and its number before to those now.
abbrev pub KeepsLaw : Law → Access → DeviceState → DeviceState → Type 0
KeepsLaw NoLaw access old new = Unit {0}
KeepsLaw ConsoleLaw access old new = KeepsConsole access.write access.failed access.value old.shown new.shown
KeepsLaw TickerLaw access old new = KeepsTicker access.write access.failed access.width access.value old.tick new.tick × (new.shown ≡ [])

-- What one access does to what is known of the device.
pub record Accessed (access : Access) (old new : DeviceState) : Type 0 where
  pub past : GrewBy access old.past new.past
  pub fits : access.value < 256 ^ access.width
  pub failed : RoseWhere access.failed old.faults new.faults
  pub later : old.faults ≤ new.faults
  pub law : new.law ≡ old.law
  pub kept : KeepsLaw old.law access old new

-- What a read with this answer does.
abbrev pub Reads : {E : Type 0} → DeviceState → DeviceState → ℕ → ℕ → Result ℕ E → Type 0
Reads old new offset width result = Accessed (read_access offset width result) old new

-- What a write of this value with this answer does.
abbrev pub Writes : {E : Type 0} → DeviceState → DeviceState → ℕ → ℕ → ℕ → Result (Unit {0}) E → Type 0
Writes old new offset width value result = Accessed (write_access offset width value result) old new
