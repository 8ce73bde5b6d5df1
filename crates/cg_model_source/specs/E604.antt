-- E604: a label that is named and that no line defines.
use Rattle.std.specs.Prelude.{ℕ, List, [], ◌∷◌, ◌++◌, Option, Some, None}
use Rattle.cg_model_source.specs.Choosing.{SourceFault, alone}
use Rattle.cg_model_source.specs.Sourcing.{Label, address_of, Item, bytes, gap, datum, instruction}
use Rattle.cg_model_source.specs.declared.written.Sum.{Sum}
use Rattle.cg_model_source.specs.declared.written.Term.{Term}

abbrev pub undefined : List ℕ → Option ℕ → List SourceFault
undefined name None = alone 604 name ∷ []
undefined name (Some address) = []

abbrev pub undefined_terms : List Label → List Term → List SourceFault
undefined_terms labels [] = []
undefined_terms labels (t ∷ ts) = undefined t.label (address_of labels t.label) ++ undefined_terms labels ts

abbrev pub undefined_sums : List Label → List Sum → List SourceFault
undefined_sums labels [] = []
undefined_sums labels (s ∷ ss) = undefined_terms labels s.terms ++ undefined_sums labels ss

abbrev pub undefined_item : List Label → Item → List SourceFault
undefined_item labels (bytes t) = []
undefined_item labels (gap n) = []
undefined_item labels (datum name width s) = undefined_terms labels s.terms
undefined_item labels (instruction address c more) = undefined_sums labels c.sums

abbrev pub undefined_items : List Label → List Item → List SourceFault
undefined_items labels [] = []
undefined_items labels (x ∷ xs) = undefined_item labels x ++ undefined_items labels xs
