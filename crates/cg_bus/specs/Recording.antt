-- A recorder: what it answers, which of its calls fail, and what it tells of them.
use Rattle.std.specs.Prelude.{◌≡◌, ℕ, ◌+◌, ◌%◌, ◌^◌, ◌==◌, Bool, false, ◌||◌, nat_le, nat_lt, List, [], ◌∷◌, ◌++◌, map, length, Some, None, if◌then◌else◌, Result, Ok, Err}
use Rattle.std.specs.List.{list_any, slice_index_or}
use Rattle.cg_base.specs.Accesses.{Access, DeviceState}
use Rattle.cg_base.specs.Counts.{raised}
use Rattle.cg_base.specs.Accesses.Law.{NoLaw}
use Rattle.cg_bus.specs.declared.access.Access as declared
use Rattle.cg_bus.specs.declared.device.DeviceFailed.{DeviceFailed}
use Rattle.cg_bus.specs.declared.recorder.Recorder.{Recorder}

-- an access as it is told
abbrev pub access_of : declared.Access → Access
access_of a = record { write = a.write; offset = a.offset; width = a.width; value = a.value; failed = a.failed }

-- the accesses that a recorder has room for, in order
abbrev pub recorded : Recorder → List Access
recorded r = map access_of r.past.items

-- all that is known of a recorder. It tells its past until a call is made that it has no room for
abbrev pub recorder_state : Recorder → DeviceState
recorder_state r = record { past = if r.whole then Some (recorded r) else None; shown = []; faults = r.faults; law = NoLaw; tick = 0 }

-- whether there is room for one more access
abbrev pub has_room : Recorder → Bool
has_room r = nat_lt (length r.past.items) r.room

-- whether the next call fails: exactly where there is no room for it, or its number, counted from 0, is one of those that fail
abbrev pub will_fail : Recorder → Bool
will_fail r = nat_le r.room (length r.past.items) || list_any (λ number. number == length r.past.items) r.failing

-- what the next read answers where it doesn't fail: the n-th read the n-th answer, as far as the width goes, and then 0
abbrev pub next_answer : Recorder → ℕ → ℕ
next_answer r width = slice_index_or r.answers r.reads 0 % 256 ^ width

-- what the next read answers
abbrev pub next_read : Recorder → ℕ → Result ℕ DeviceFailed
next_read r width = if will_fail r then Err (record {}) else Ok (next_answer r width)

-- what the next write answers
abbrev pub next_write : Recorder → Result (Unit {0}) DeviceFailed
next_write r = if will_fail r then Err (record {}) else Ok (tt {0})

-- how many reads were made, after one more access
abbrev pub reads_after : Recorder → Access → ℕ
reads_after r access = if access.write then r.reads else r.reads + 1

-- a recorder enters one access, where it has room
pub record Enters (access : Access) (old new : Recorder) : Type 0 where
  pub past : recorded new ≡ (if has_room old then recorded old ++ access ∷ [] else recorded old)
  pub reads : new.reads ≡ (if has_room old then reads_after old access else old.reads)
  pub whole : new.whole ≡ (if has_room old then old.whole else false)
  pub faults : new.faults ≡ (if access.failed then raised old.faults else old.faults)
  pub answers : new.answers ≡ old.answers
  pub failing : new.failing ≡ old.failing
  pub room : new.room ≡ old.room
