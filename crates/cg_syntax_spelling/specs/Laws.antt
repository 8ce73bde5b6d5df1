-- What a text stands for depends on which texts are keywords, and not on how they are listed.
use Rattle.std.specs.Prelude.{◌≡◌, ℕ, List}
use Rattle.cg_model_source.specs.Spelling.{sum_of, spelled}
use Rattle.cg_model.specs.declared.machine.Machine.{Machine}
use Rattle.cg_model.specs.declared.operand.Operand.{Operand}

pub record SpellAlike (v w : List (List ℕ)) : Type 0 where
  pub sum : (text : List ℕ) → sum_of v text ≡ sum_of w text
  pub slot : (m : Machine) (o : Operand) (text : List ℕ) → spelled m v o text ≡ spelled m w o text
