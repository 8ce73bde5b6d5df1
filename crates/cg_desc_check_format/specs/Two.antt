-- Two fields that cover one bit.
use Rattle.std.specs.Prelude.{ℕ, Option, Some, None}
use Rattle.cg_desc_check_format.specs.declared.overlap.Two as declared

abbrev pub seen_two : Option declared.Two → Option (ℕ × ℕ)
seen_two None = None
seen_two (Some two) = Some (two.first, two.second)
