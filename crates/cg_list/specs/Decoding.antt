-- What is printed of bytes.
use Rattle.std.specs.Prelude.{ℕ, if◌then◌else◌, List, [], ◌∷◌, ◌++◌, ℤ, pos, Option, Some, None, slice_get, codes}
use Rattle.std.specs.Fmt.{signed_decimal}
use Rattle.cg_base.specs.declared.mode.Mode.{Mode}
use Rattle.cg_base.specs.Modes.{bits_of, is_signed}
use Rattle.cg_base.specs.Operations.{as_signed}
use Rattle.cg_model.specs.Clashing.{decoded_to}
use Rattle.cg_model.specs.Encoding.{own_pc}
use Rattle.cg_model.specs.Slots.{slot_mode, slots_of, values}
use Rattle.cg_model.specs.declared.insn.Insn.{Insn}
use Rattle.cg_model.specs.declared.machine.Machine.{Machine}
use Rattle.cg_model.specs.declared.operand.Operand.{Operand}

-- A value with the sign of its mode.
abbrev pub number_of : Mode → ℕ → ℤ
number_of mode value = if is_signed mode then as_signed (bits_of mode) value else pos value

-- ` OPERAND=VALUE`
abbrev pub slot_text : Machine → Operand → ℕ → List ℕ
slot_text m o value = codes " " ++ o.name ++ codes "=" ++ signed_decimal (number_of (slot_mode m o) value)

-- Slots with their values, in order.
abbrev pub slots_text : Machine → List Operand → List ℕ → List ℕ
slots_text m [] vs = []
slots_text m (o ∷ os) [] = []
slots_text m (o ∷ os) (v ∷ vs) = slot_text m o v ++ slots_text m os vs

-- What is printed of an instruction that matches, at pc 0.
abbrev pub insn_line : Machine → List ℕ → Insn → List ℕ
insn_line m bytes i = i.name ++ slots_text m (slots_of m i.parts) (values m i bytes (own_pc m 0)) ++ codes "\n"

abbrev pub no_line : List ℕ
no_line = codes "none\n"

-- The same of the instruction of a number.
abbrev pub line_at : Machine → List ℕ → ℕ → List ℕ
line_at m bytes k = elim (slice_get m.insns k) [ None ↦ no_line | Some i ↦ insn_line m bytes i ]

abbrev pub line_where : Machine → List ℕ → Option ℕ → List ℕ
line_where m bytes None = no_line
line_where m bytes (Some k) = line_at m bytes k

-- The line of the one decodable instruction that matches, or `none`.
abbrev pub decoded_line : Machine → List ℕ → List ℕ
decoded_line m bytes = line_where m bytes (decoded_to m bytes)
