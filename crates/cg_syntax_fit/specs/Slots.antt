-- Slots by the numbers of their operands.
use Rattle.std.specs.Prelude.{ℕ, ◌<◌, List, [], ◌∷◌, length, slice_index, Some, None, slice_get}
use Rattle.cg_model.specs.declared.machine.Machine.{Machine}
use Rattle.cg_model.specs.declared.operand.Operand.{Operand}

-- The operands that there are of some numbers.
abbrev pub operands_of : Machine → List ℕ → List Operand
operands_of m [] = []
operands_of m (k ∷ ks) = elim (slice_get m.operands k) [ None ↦ operands_of m ks | Some o ↦ o ∷ operands_of m ks ]

-- Each of them is there.
abbrev pub AreThere : Machine → List ℕ → Type 0
AreThere m ks = (j : ℕ) → j < length ks → slice_index ks j < length m.operands
