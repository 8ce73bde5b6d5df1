-- What is left of a count of nodes.
use Rattle.std.specs.Prelude.{ℕ, ◌-◌, nat_le, if◌then◌else◌, Option, Some, None}

-- What a number of nodes leaves of a count, where it reaches.
abbrev pub left_of : ℕ → Option ℕ → Option ℕ
left_of count None = None
left_of count (Some n) = if nat_le n count then Some (count - n) else None

abbrev pub left_after : Option ℕ → Option ℕ → Option ℕ
left_after None a = None
left_after (Some count) a = left_of count a
