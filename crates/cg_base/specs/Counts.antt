-- A count of faults, which never falls: when a fault of the outside, of a file, a sink or a device, may be told.
use Rattle.std.specs.Prelude.{ℕ, ◌+◌, ◌-◌, ◌^◌, ◌≤◌, min}

-- The count after this one, which stays at the end of its type.
abbrev pub raised : ℕ → ℕ
raised count = min (count + 1) (2 ^ 64 - 1)

-- The count rose from before to now, or stands at its end.
abbrev pub Rose : ℕ → ℕ → Type 0
Rose before now = raised before ≤ now
