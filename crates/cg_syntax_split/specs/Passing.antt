-- A split, mark by mark.
use Rattle.std.specs.Prelude.{ℕ, ◌==◌, if◌then◌else◌, List, [], ◌∷◌, Option, Some, None}
use Rattle.std.specs.List.{prefix_len}
use Rattle.std.specs.Option.{option_map}
use Rattle.cg_model_source.specs.Spelling.{spelled}
use Rattle.cg_model.specs.Words.{lower}
use Rattle.cg_model_source.specs.Splitting.{Spelling, operand_at, run_of}
use Rattle.cg_model.specs.declared.machine.Machine.{Machine}
use Rattle.cg_model.specs.declared.operand.Operand.{Operand}
use Rattle.cg_model_source.specs.declared.written.Mark.{Mark}
use Rattle.cg_model_source.specs.declared.written.Mark.TheVariants.{Byte, Slot}
use Rattle.cg_model_source.specs.declared.written.Sum.{Sum}
use Rattle.cg_model_faults.specs.E312.{may_have}
use Rattle.cg_syntax_split.specs.declared.splitting.Filled.{Filled}
use Rattle.cg_syntax_split.specs.declared.splitting.Taken.{Taken}

-- What is written in slots, without the texts.
abbrev pub filled : List Spelling → List Filled
filled [] = []
filled (w ∷ ws) = record { slot = w.slot; sum = w.sum } ∷ filled ws

-- What a slot takes from the front of a text that stands for a sum.
abbrev pub takes : ℕ → ℕ → Sum → Taken
takes slot count sum = record { count = count; filled = Some (record { slot = slot; sum = sum }) }

abbrev pub slot_passed : Machine → List (List ℕ) → Operand → ℕ → List ℕ → Option Taken
slot_passed m words o slot text = option_map (takes slot (prefix_len (may_have m o) text)) (spelled m words o (run_of m o text))

abbrev pub byte_passed : ℕ → List ℕ → Option Taken
byte_passed b [] = None
byte_passed b (c ∷ text) = if lower b == lower c then Some (record { count = 1; filled = None }) else None

-- What a mark takes from the front of a text.
abbrev pub passed : Machine → List (List ℕ) → List ℕ → Mark → List ℕ → Option Taken
passed m words operands (Byte b) text = byte_passed b text
passed m words operands (Slot k) text = elim (operand_at m operands k) [ None ↦ None | Some o ↦ slot_passed m words o k text ]
