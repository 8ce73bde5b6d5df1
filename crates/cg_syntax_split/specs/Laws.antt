-- What holds of the splits of a text.
use Rattle.std.specs.Prelude.{◌≡◌, ℕ, List, [], Some}
use Rattle.cg_model_source.specs.Splitting.{Spelling, Splits, split}
use Rattle.cg_model_source.specs.Squeezing.{squeezed_syntax}
use Rattle.cg_model.specs.declared.insn.Piece.{Piece}
use Rattle.cg_model.specs.declared.machine.Machine.{Machine}
use Rattle.cg_model_faults.specs.E312.{undelimited}

-- By a syntax whose slots have these operands.
pub record SplitLaws (m : Machine) (operands : List ℕ) (pieces : List Piece) : Type 0 where
  -- what is found is a split
  pub sound : (words : List (List ℕ)) (text : List ℕ) (found : List Spelling) → split m words operands (squeezed_syntax pieces) text ≡ Some found → Splits m words operands (squeezed_syntax pieces) text found
  -- where all slots are delimited, each split is found
  pub complete : undelimited m operands pieces ≡ [] → (words : List (List ℕ)) (text : List ℕ) (found : List Spelling) → Splits m words operands (squeezed_syntax pieces) text found → split m words operands (squeezed_syntax pieces) text ≡ Some found
  -- and so there is one at most
  pub one : undelimited m operands pieces ≡ [] → (words : List (List ℕ)) (text : List ℕ) (found other : List Spelling) → Splits m words operands (squeezed_syntax pieces) text found → Splits m words operands (squeezed_syntax pieces) text other → found ≡ other
