-- E309: a field leaves its word, is empty, or is longer than its mode.
use Rattle.std.specs.Prelude.{◌+◌, Bool, not, ◌&&◌, nat_le}
use Rattle.cg_base.specs.Modes.{bits_of}
use Rattle.cg_model_faults.specs.Finding.{Faults, at_place, where_so}
use Rattle.cg_model_faults.specs.declared.fault.Said.TheVariants.{Own, Nothing}
use Rattle.cg_model.specs.declared.field.Field.{Field}

-- A field has a bit at least, lies in its word, and is no longer than its mode.
abbrev pub has_place : Field → Bool
has_place f = nat_le 1 f.length && nat_le (f.shift + f.length) f.word_bits && nat_le f.length (bits_of f.mode)

abbrev pub misplaced : Field → Faults
misplaced f = where_so (not (has_place f)) (at_place 309 0 Own Nothing)
