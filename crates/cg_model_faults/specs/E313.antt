-- E313: the slots of syntax and format, or of `emit`, differ, or a slot stands twice in one syntax or format.
use Rattle.std.specs.Prelude.{ℕ, suc, Bool, false, not, ◌||◌, ◌==◌, nat_lt, List, [], ◌∷◌, ◌++◌, length, drop, Option, Some, None, slice_get}
use Rattle.cg_model_faults.specs.Finding.{Faults, at_place, where_so, stands_in}
use Rattle.cg_model_faults.specs.declared.fault.Said.{Said}
use Rattle.cg_model_faults.specs.declared.fault.Said.TheVariants.{Own, Nothing, Operand}
use Rattle.cg_model.specs.declared.insn.Given.{Given}
use Rattle.cg_model.specs.declared.insn.Given.TheVariants as given
use Rattle.cg_model.specs.declared.insn.Part.{Part}
use Rattle.cg_model.specs.declared.insn.Part.TheVariants as part
use Rattle.cg_model.specs.declared.insn.Piece.{Piece}
use Rattle.cg_model.specs.declared.insn.Piece.TheVariants.{Literal, Slot}

-- The operands of a format's slots, by their numbers.
abbrev pub part_operands : Part → List ℕ
part_operands (part.Constant k c) = []
part_operands (part.Slot o) = o ∷ []

abbrev pub slot_operands : List Part → List ℕ
slot_operands [] = []
slot_operands (p ∷ ps) = part_operands p ++ slot_operands ps

-- The slot stands in a syntax.
abbrev pub is_slot : ℕ → Piece → Bool
is_slot s (Literal text) = false
is_slot s (Slot k) = k == s

abbrev pub is_written : ℕ → List Piece → Bool
is_written s [] = false
is_written s (p ∷ ps) = is_slot s p || is_written s ps

-- The operand of a slot. A slot that names none says nothing.
abbrev pub operand_said : Option ℕ → Said
operand_said None = Nothing
operand_said (Some o) = Operand o

-- A piece at a place behind others: a slot that stands among them stands twice.
abbrev pub twice_at : List ℕ → ℕ → List Piece → Piece → Faults
twice_at operands place before (Literal text) = []
twice_at operands place before (Slot s) = where_so (is_written s before) (at_place 313 place Own (operand_said (slice_get operands s)))

abbrev pub twice_from : List ℕ → ℕ → List Piece → List Piece → Faults
twice_from operands place before [] = []
twice_from operands place before (p ∷ ps) = twice_at operands place before p ++ twice_from operands (suc place) (before ++ p ∷ []) ps

-- Of a syntax whose slots have these operands, at the second of two pieces that are one slot.
abbrev pub written_twice : List ℕ → List Piece → Faults
written_twice operands pieces = twice_from operands 0 [] pieces

-- An operand at a place behind others: it stands among them too, or its slot isn't written.
abbrev pub unmatched_at : List Piece → ℕ → List ℕ → ℕ → Faults
unmatched_at pieces place before o = where_so (stands_in before o || not (is_written place pieces)) (at_place 313 place Own (Operand o))

abbrev pub unmatched_from : List Piece → ℕ → List ℕ → List ℕ → Faults
unmatched_from pieces place before [] = []
unmatched_from pieces place before (o ∷ os) = unmatched_at pieces place before o ++ unmatched_from pieces (suc place) (before ++ o ∷ []) os

-- Of the operands of slots, at the operand.
abbrev pub unmatched : List Piece → List ℕ → Faults
unmatched pieces operands = unmatched_from pieces 0 [] operands

-- The slots of an emitted instruction that a macro instruction gives nothing, and, where it gives more than there are, that.
abbrev pub ungiven_from : ℕ → List ℕ → Faults
ungiven_from place [] = []
ungiven_from place (o ∷ os) = at_place 313 place Own (Operand o) ∷ ungiven_from (suc place) os

abbrev pub ungiven : List Given → List ℕ → Faults
ungiven gs slots = ungiven_from (length gs) (drop (length gs) slots) ++ where_so (nat_lt (length slots) (length gs)) (at_place 313 (length slots) Own Nothing)

-- A slot of the macro instruction is given on.
abbrev pub is_giving : ℕ → Given → Bool
is_giving s (given.Number n) = false
is_giving s (given.Slot k) = k == s

abbrev pub is_given : ℕ → List Given → Bool
is_given s [] = false
is_given s (g ∷ gs) = is_giving s g || is_given s gs

abbrev pub unused_at : List Given → ℕ → ℕ → Faults
unused_at gs place o = where_so (not (is_given place gs)) (at_place 313 place Own (Operand o))

abbrev pub unused_from : List Given → ℕ → List ℕ → Faults
unused_from gs place [] = []
unused_from gs place (o ∷ os) = unused_at gs place o ++ unused_from gs (suc place) os

-- The slots of a macro instruction that it gives to none.
abbrev pub unused : List Given → List ℕ → Faults
unused gs operands = unused_from gs 0 operands
