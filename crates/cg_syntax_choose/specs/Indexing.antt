-- How the instructions of a machine are written, and its keywords.
use Rattle.std.specs.Prelude.{◌≡◌, ℕ, List, [], ◌∷◌, length, Some, slice_get}
use Rattle.cg_syntax_choose.specs.Fronts.{front_of}
use Rattle.cg_syntax_choose.specs.declared.index.Index.{Index}
use Rattle.cg_syntax_choose.specs.declared.index.Pattern.{Pattern}
use Rattle.cg_model_source.specs.Spelling.{keywords}
use Rattle.cg_model_source.specs.Squeezing.{squeezed_syntax}
use Rattle.cg_model.specs.declared.insn.Insn.{Insn}
use Rattle.cg_model.specs.declared.insn.MacroInsn.{MacroInsn}
use Rattle.cg_model.specs.declared.insn.Piece.{Piece}
use Rattle.cg_model.specs.declared.machine.Machine.{Machine}
use Rattle.cg_model_faults.specs.E313.{slot_operands}
use Rattle.cg_syntax_spelling.specs.Lowered.{SameKeywords}

-- A syntax whose slots have these operands.
abbrev pub pattern_of : List Piece → List ℕ → Pattern
pattern_of pieces operands = record { marks = squeezed_syntax pieces; operands = operands; front = front_of (squeezed_syntax pieces) }

abbrev pub insn_pattern : Insn → Pattern
insn_pattern i = pattern_of i.pieces (slot_operands i.parts)

abbrev pub insn_patterns : List Insn → List Pattern
insn_patterns [] = []
insn_patterns (i ∷ is) = insn_pattern i ∷ insn_patterns is

abbrev pub macro_pattern : MacroInsn → Pattern
macro_pattern x = pattern_of x.pieces x.operands

abbrev pub macro_patterns : List MacroInsn → List Pattern
macro_patterns [] = []
macro_patterns (x ∷ xs) = macro_pattern x ∷ macro_patterns xs

-- The index of a machine.
pub record IsIndex (m : Machine) (x : Index) : Type 0 where
  pub keywords : SameKeywords x.keywords (keywords m)
  pub insns : x.insns ≡ insn_patterns m.insns
  pub macros : x.macros ≡ macro_patterns m.macros

-- Each macro instruction gives each slot of the instruction that it emits, where there is that instruction.
abbrev pub GivesAll : Machine → Type 0
GivesAll m = (k : ℕ) (x : MacroInsn) (i : Insn) → slice_get m.macros k ≡ Some x → slice_get m.insns x.target ≡ Some i → length x.given ≡ length (slot_operands i.parts)
