-- What slots are given, in the format's order.
use Rattle.std.specs.Prelude.{ℕ, suc, ◌==◌, if◌then◌else◌, List, [], ◌∷◌, pos}
use Rattle.cg_model_source.specs.Spelling.{just}
use Rattle.cg_model.specs.declared.insn.Given.{Given}
use Rattle.cg_model.specs.declared.insn.Given.TheVariants as given
use Rattle.cg_model_source.specs.declared.written.Sum.{Sum}
use Rattle.cg_syntax_split.specs.declared.splitting.Filled.{Filled}

-- What is written in a slot.
abbrev pub filled_sum : ℕ → List Filled → Sum
filled_sum k [] = just (pos 0)
filled_sum k (f ∷ fs) = if f.slot == k then f.sum else filled_sum k fs

abbrev pub filled_sums : ℕ → List ℕ → List Filled → List Sum
filled_sums k [] fs = []
filled_sums k (o ∷ os) fs = filled_sum k fs ∷ filled_sums (suc k) os fs

-- What a macro instruction gives a slot.
abbrev pub given_one : List Filled → Given → Sum
given_one fs (given.Number n) = just n
given_one fs (given.Slot k) = filled_sum k fs

abbrev pub given_all : List Filled → List Given → List Sum
given_all fs [] = []
given_all fs (g ∷ gs) = given_one fs g ∷ given_all fs gs
