-- When a text is written by a syntax, and what then stands in its slots.
use Rattle.std.specs.Prelude.{◌≡◌, ℕ, true, ◌==◌, if◌then◌else◌, List, [], ◌∷◌, ◌++◌, drop, Option, Some, None, slice_get}
use Rattle.std.specs.List.{list_all, prefix_len, take_while}
use Rattle.cg_base.specs.Parts.{◌>>=◌}
use Rattle.cg_model_source.specs.Spelling.{spelled}
use Rattle.cg_model.specs.Words.{lower}
use Rattle.cg_model.specs.declared.machine.Machine.{Machine}
use Rattle.cg_model.specs.declared.operand.Operand.{Operand}
use Rattle.cg_model_source.specs.declared.written.Mark.{Mark}
use Rattle.cg_model_source.specs.declared.written.Mark.TheVariants.{Byte, Slot}
use Rattle.cg_model_source.specs.declared.written.Sum.{Sum}
use Rattle.cg_model_faults.specs.E312.{may_have}

-- What is written in a slot: the text, and what it stands for.
pub record Spelling : Type 0 where
  pub slot : ℕ
  pub text : List ℕ
  pub sum : Sum

-- The operand of a slot. Slots are numbered by the operands.
abbrev pub operand_at : Machine → List ℕ → ℕ → Option Operand
operand_at m operands k = slice_get operands k >>= slice_get m.operands

-- An operand may be written so: with such characters as its text may have, as a word of its hardware or a sum.
pub record IsSpelled (m : Machine) (words : List (List ℕ)) (o : Operand) (text : List ℕ) (sum : Sum) : Type 0 where
  pub run : list_all (may_have m o) text ≡ true
  pub stands_for : spelled m words o text ≡ Some sum

-- A text is the characters of a syntax, letter case aside, with spellings in its slots.
pub data Splits (m : Machine) (words : List (List ℕ)) (operands : List ℕ) : List Mark → List ℕ → List Spelling → Type 0 where
  done : Splits m words operands [] [] []
  byte : {ms : List Mark} {text : List ℕ} {found : List Spelling} (b c : ℕ) → (lower b == lower c) ≡ true → Splits m words operands ms text found → Splits m words operands (Byte b ∷ ms) (c ∷ text) found
  slot : {ms : List Mark} {text : List ℕ} {found : List Spelling} (k : ℕ) (o : Operand) (w : List ℕ) (sum : Sum) → operand_at m operands k ≡ Some o → IsSpelled m words o w sum → Splits m words operands ms text found → Splits m words operands (Slot k ∷ ms) (w ++ text) (record { slot = k; text = w; sum = sum } ∷ found)

-- The text in front for an operand: as many characters as it may have.
abbrev pub run_of : Machine → Operand → List ℕ → List ℕ
run_of m o text = take_while (may_have m o) text

abbrev pub behind_run : Machine → Operand → List ℕ → List ℕ
behind_run m o text = drop (prefix_len (may_have m o) text) text

abbrev pub spelling_in_front : ℕ → List ℕ → Option Sum → Option (List Spelling) → Option (List Spelling)
spelling_in_front k text (Some sum) (Some found) = Some (record { slot = k; text = text; sum = sum } ∷ found)
spelling_in_front k text _ _ = None

-- The one split of a text: each slot holds all characters from there on that it may have.
unfoldable pub split : Machine → List (List ℕ) → List ℕ → List Mark → List ℕ → Option (List Spelling)
split m words operands [] [] = Some []
split m words operands [] (c ∷ text) = None
split m words operands (Byte b ∷ ms) [] = None
split m words operands (Byte b ∷ ms) (c ∷ text) = if lower b == lower c then split m words operands ms text else None
split m words operands (Slot k ∷ ms) text = elim (operand_at m operands k) [
  | None ↦ None
  | Some o ↦ spelling_in_front k (run_of m o text) (spelled m words o (run_of m o text)) (split m words operands ms (behind_run m o text))
]
