-- What bytes are decoded to, said of all instructions.
use Rattle.std.specs.Prelude.{ℕ, List}
use Rattle.cg_model.specs.Matching.{IsMatch}
use Rattle.cg_model.specs.declared.machine.Machine.{Machine}

-- Bytes match no instruction that they might be decoded to.
pub record NoMatch (m : Machine) (bytes : List ℕ) : Type 0 where
  pub none : (k : ℕ) → IsMatch m bytes k → ⊥
