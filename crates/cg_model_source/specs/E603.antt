-- E603: a label that was defined before, or that is named as a keyword.
use Rattle.std.specs.Prelude.{ℕ, ◌||◌, if◌then◌else◌, is_some, List, [], ◌∷◌, Option, Some, None}
use Rattle.cg_model_source.specs.Choosing.{SourceFault, alone}
use Rattle.cg_model_source.specs.Sourcing.{Label, address_of}
use Rattle.cg_model_source.specs.Spelling.{is_keyword}

abbrev pub taken_label : List (List ℕ) → List Label → Option (List ℕ) → List SourceFault
taken_label words labels None = []
taken_label words labels (Some name) = if is_some (address_of labels name) || is_keyword words name then alone 603 name ∷ [] else []
