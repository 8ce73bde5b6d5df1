-- Numbers in front of bytes, as files hold them: the least significant byte first.
use Rattle.std.specs.Prelude.{ℕ, List, Option, Some, None, nat_lt, length, take, drop, if◌then◌else◌}
use Rattle.std.specs.Int.{Width, byte_len, from_le_bytes}

-- The number of so many bits in front, and the bytes behind it; nothing where there are fewer bytes.
abbrev pub front : Width → List ℕ → Option (ℕ × List ℕ)
front w bytes = if nat_lt (length bytes) (byte_len w) then None else Some (from_le_bytes w (take (byte_len w) bytes), drop (byte_len w) bytes)
