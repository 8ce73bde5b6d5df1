-- Numbers as bytes: each byte counts 256 times as much as the one behind it (big), or before it (little).
use Rattle.std.specs.Prelude.{ℕ, List}
use Rattle.byteorder.specs.Endian.{big_number, little_number, big_bytes, little_bytes}
use Rattle.cg_base.specs.declared.mode.Endian.{Endian}
use Rattle.cg_base.specs.declared.mode.Endian.TheVariants.{Big, Little}

-- The number that the first n bytes are.
abbrev pub number_of : Endian → ℕ → List ℕ → ℕ
number_of Big n bytes = big_number n bytes
number_of Little n bytes = little_number n bytes

-- The n bytes of a number below 256 ^ n.
abbrev pub bytes_of : Endian → ℕ → ℕ → List ℕ
bytes_of Big n value = big_bytes n value
bytes_of Little n value = little_bytes n value
