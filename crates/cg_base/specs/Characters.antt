-- The characters of words, and of sums of numbers and labels (docs/ASSEMBLY.md, "Statements").
use Rattle.std.specs.Prelude.{ℕ, Bool, ◌&&◌, ◌||◌, ◌==◌, nat_le}

-- Letters and digits.
abbrev pub is_alphanumeric : ℕ → Bool
is_alphanumeric b = (nat_le 48 b && nat_le b 57) || (nat_le 65 b && nat_le b 90) || (nat_le 97 b && nat_le b 122)

-- A slot whose hardware has words is written by one of them: a run of letters, digits and `_ . % $`.
abbrev pub is_in_word : ℕ → Bool
is_in_word b = is_alphanumeric b || b == 95 || b == 46 || b == 37 || b == 36

-- Every other slot is written by a sum: a run of letters, digits and `_ . + -`.
abbrev pub is_in_sum : ℕ → Bool
is_in_sum b = is_alphanumeric b || b == 95 || b == 46 || b == 43 || b == 45
