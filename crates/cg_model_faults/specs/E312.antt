-- E312: a slot is not delimited: it stands neither at the end of its syntax nor in front of a character that its text can't have.
-- Then one text could be split in two ways.
use Rattle.std.specs.Prelude.{ℕ, suc, Bool, true, false, if◌then◌else◌, is_some, List, [], ◌∷◌, ◌++◌, Some, None, slice_get}
use Rattle.cg_base.specs.Characters.{is_in_word, is_in_sum}
use Rattle.cg_model_faults.specs.Finding.{Faults, at_place, where_so}
use Rattle.cg_model_faults.specs.declared.fault.Said.TheVariants.{Own}
use Rattle.cg_model_faults.specs.declared.fault.Said.TheVariants as said
use Rattle.cg_model.specs.declared.operand.Operand.{Operand}
use Rattle.cg_model.specs.declared.insn.Piece.{Piece}
use Rattle.cg_model.specs.declared.insn.Piece.TheVariants.{Literal, Slot}
use Rattle.cg_model.specs.declared.machine.Machine.{Machine}

-- The hardware of an operand has words.
abbrev pub has_words : Machine → Operand → Bool
has_words m o = elim (slice_get m.hardware o.hardware) [ None ↦ false | Some h ↦ is_some h.keyword ]

-- The text of an operand may have this character.
abbrev pub may_have : Machine → Operand → ℕ → Bool
may_have m o b = if has_words m o then is_in_word b else is_in_sum b

-- What stands behind goes on with a slot, or with such a character. Literals without characters count for nothing. A blank
-- delimits also where it is squeezed out: it is only where a character stands behind it that no text can have.
abbrev pub goes_on : (ℕ → Bool) → List Piece → Bool
goes_on test [] = false
goes_on test (Slot s ∷ ps) = true
goes_on test (Literal [] ∷ ps) = goes_on test ps
goes_on test (Literal (b ∷ bs) ∷ ps) = test b

-- A slot at a place, whose operand has this number, in front of some pieces.
abbrev pub undelimited_at : Machine → ℕ → ℕ → List Piece → Faults
undelimited_at m place k behind = elim (slice_get m.operands k) [
  | None ↦ []
  | Some o ↦ where_so (goes_on (may_have m o) behind) (at_place 312 place Own (said.Operand k))
]

-- A piece at a place. Slots are numbered by the operands.
abbrev pub undelimited_piece : Machine → List ℕ → ℕ → Piece → List Piece → Faults
undelimited_piece m operands place (Literal text) behind = []
undelimited_piece m operands place (Slot s) behind = elim (slice_get operands s) [ None ↦ [] | Some o ↦ undelimited_at m place o behind ]

abbrev pub undelimited_from : Machine → List ℕ → ℕ → List Piece → Faults
undelimited_from m operands place [] = []
undelimited_from m operands place (p ∷ ps) = undelimited_piece m operands place p ps ++ undelimited_from m operands (suc place) ps

-- Of a syntax whose slots have these operands, at the slot.
abbrev pub undelimited : Machine → List ℕ → List Piece → Faults
undelimited m operands pieces = undelimited_from m operands 0 pieces
