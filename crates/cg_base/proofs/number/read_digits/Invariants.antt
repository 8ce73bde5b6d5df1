use Rattle.std.proofs.Common.{◌≡◌, ◌^◌, ◌<◌, drop}
use Rattle.std.specs.List.{list_all}
use Rattle.std.specs.Str.Parse.{digits_value_after}
use Rattle.cg_base.specs.Numerals.{is_digit_of}
use Rattle.cg_base.proofs.number.read_digits.Given as goal

-- the digits that are left say whether all are digits, and write, behind the value so far, the number of all. The value so far has 64 bits
abbrev pub invariant-loop-byte : goal.invariant-loop-byte
invariant-loop-byte l = record {
  digits : list_all (is_digit_of l.base) (drop l.byte-index l.digits) ≡ list_all (is_digit_of l.base) l.digits;
  value : digits_value_after l.base l.value (drop l.byte-index l.digits) ≡ digits_value_after l.base 0 l.digits;
  fits : l.value < 2 ^ 64;
}
