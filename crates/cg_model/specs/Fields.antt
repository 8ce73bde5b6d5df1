-- Where a field lies in an instruction's bytes, and what it and a multi field give.
use Rattle.std.specs.Prelude.{ℕ, ◌-◌, ◌/◌, ◌%◌, ◌^◌, nat_lt, if◌then◌else◌, List, drop, ℤ, pos, ◌-ℤ◌, Some, None}
use Rattle.cg_base.specs.Bytes.{number_of}
use Rattle.cg_base.specs.Modes.{bits_of, is_signed}
use Rattle.cg_base.specs.Operations.{wrapped}
use Rattle.cg_model.specs.Operators.{at_number}
use Rattle.cg_model.specs.Pure.{Around, pure_value}
use Rattle.cg_model.specs.declared.field.Field.{Field}
use Rattle.cg_model.specs.declared.machine.Machine.{Machine}

-- The number of the word that holds a field.
abbrev pub word_of : Machine → Field → List ℕ → ℕ
word_of m f bytes = number_of m.insn_endian (f.word_bits / 8) (drop (f.word_offset / 8) bytes)

-- The field's bits as a number.
abbrev pub bits_at : Machine → Field → List ℕ → ℕ
bits_at m f bytes = (word_of m f bytes / 2 ^ f.shift) % 2 ^ f.length

-- The number that some bits stand for where the highest of them counts as negative. A field of one bit may have a sign, where a
-- value of one bit has none.
abbrev pub signed_bits : ℕ → ℕ → ℤ
signed_bits bits n = if nat_lt n (2 ^ (bits - 1)) then pos n else pos n -ℤ pos (2 ^ bits)

-- A field's bits, extended to its mode by the mode's sign.
abbrev pub extended : Field → ℕ → ℕ
extended f n = wrapped (bits_of f.mode) (if is_signed f.mode then signed_bits f.length n else pos n)

-- Around a rule that names no field: the rule's own value, and the pc.
abbrev pub around_value : ℕ → ℕ → Around
around_value value pc = record { value = value; pc = pc; field = λ k. 0; multi = λ k. 0 }

-- What a field's value is for its bits: what its rule `decode` gives for them, where it has one.
abbrev pub decoded : Machine → Field → ℕ → ℕ → ℕ
decoded m f pc n = elim f.decode [ None ↦ extended f n | Some rule ↦ pure_value m (around_value (extended f n) pc) rule (Some f.mode) ]

-- The value of the field of a number.
abbrev pub field_value : Machine → List ℕ → ℕ → ℤ → ℕ
field_value m bytes pc k = elim (at_number m.fields k) [ None ↦ 0 | Some f ↦ decoded m f pc (bits_at m f bytes) ]

-- Around a rule that names fields: what the fields of the bytes give.
abbrev pub around_fields : Machine → List ℕ → ℕ → Around
around_fields m bytes pc = record { value = 0; pc = pc; field = field_value m bytes pc; multi = λ k. 0 }

-- The value of the multi field of a number: what its rule `extract` gives over the values of its fields.
abbrev pub multi_value : Machine → List ℕ → ℕ → ℤ → ℕ
multi_value m bytes pc k = elim (at_number m.multis k) [ None ↦ 0 | Some x ↦ pure_value m (around_fields m bytes pc) x.extract (Some x.mode) ]

-- Around any pure expression: the rule's own value, the pc, and what the fields and multi fields of the bytes give.
abbrev pub around : Machine → ℕ → ℕ → List ℕ → Around
around m value pc bytes = record { value = value; pc = pc; field = field_value m bytes pc; multi = multi_value m bytes pc }
