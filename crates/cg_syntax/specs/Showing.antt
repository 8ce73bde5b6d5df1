-- How instructions are shown, slots by the numbers of their operands.
use Rattle.std.specs.Prelude.{ℕ, List, [], ◌∷◌, Option, Some, None, slice_get}
use Rattle.cg_model_source.specs.Listing.{shown_value, shown_before, shown}
use Rattle.cg_model.specs.declared.machine.Machine.{Machine}
use Rattle.cg_model_source.specs.declared.written.Mark.{Mark}
use Rattle.cg_model_source.specs.declared.written.Mark.TheVariants.{Byte, Slot}

abbrev pub operand_shown : Machine → ℕ → ℕ → Option (List ℕ)
operand_shown m k value = elim (slice_get m.operands k) [ None ↦ None | Some o ↦ shown_value m o value ]

abbrev pub slot_shown : Machine → Option ℕ → Option ℕ → Option (List ℕ)
slot_shown m (Some k) (Some value) = operand_shown m k value
slot_shown m _ _ = None

abbrev pub mark_shown : Machine → List ℕ → List ℕ → Mark → Option (List ℕ)
mark_shown m ks vs (Byte b) = Some (b ∷ [])
mark_shown m ks vs (Slot k) = slot_shown m (slice_get ks k) (slice_get vs k)

abbrev pub marks_shown : Machine → List ℕ → List ℕ → List Mark → Option (List ℕ)
marks_shown m ks vs [] = Some []
marks_shown m ks vs (x ∷ xs) = shown_before (mark_shown m ks vs x) (marks_shown m ks vs xs)

-- The instruction of a number.
abbrev pub shown_at : Machine → ℕ → List ℕ → Option (List ℕ)
shown_at m k vs = elim (slice_get m.insns k) [ None ↦ None | Some i ↦ shown m i vs ]
