-- Numbers as text.
use Rattle.std.specs.Prelude.{ℕ, ◌^◌, Bool, false, ◌&&◌, ◌==◌, nat_lt, if◌then◌else◌, List, ◌++◌, length, drop, slice_index, codes, Option, Some, None}
use Rattle.std.specs.Char.{digit_value}
use Rattle.std.specs.Str.Parse.{digits_value}
use Rattle.std.specs.Fmt.{digits}
use Rattle.std.specs.List.{list_all}

-- The byte is a digit of the base: `0` to `9` count 0 to 9, and letters of either case 10 and more.
abbrev pub is_digit_of : ℕ → ℕ → Bool
is_digit_of base byte = nat_lt (digit_value byte) base

-- The number that a text of digits of a base writes. A text writes none where it has no digit or a byte that is none, or where
-- the number has more than 64 bits.
abbrev pub number_in : ℕ → List ℕ → Option ℕ
number_in base text = if nat_lt 0 (length text) && list_all (is_digit_of base) text && nat_lt (digits_value base text) (2 ^ 64) then Some (digits_value base text) else None

-- `0x` stands first.
abbrev pub begins_with_0x : List ℕ → Bool
begins_with_0x text = slice_index text 0 == 48 && slice_index text 1 == 120

-- The number that a text writes: behind `0x` in hexadecimal digits, else in decimal digits.
abbrev pub number_written : List ℕ → Option ℕ
number_written text = if begins_with_0x text then number_in 16 (drop 2 text) else number_in 10 text

-- `0x` and the hexadecimal digits of a number: in lower case, without zeros in front.
abbrev pub hex_text : ℕ → List ℕ
hex_text n = codes "0x" ++ digits 16 false n
