-- Labels in the order of their lines, the last first.
use Rattle.std.specs.Prelude.{◌≡◌, ℕ, List, [], ◌∷◌, Option, Some, None}
use Rattle.cg_base.specs.Texts.{same_text}
use Rattle.cg_model_source.specs.Sourcing.{Label, address_of}
use Rattle.indexmap.specs.IndexMap.{IndexMap, get}

-- Labels and their addresses, put in front of others one by one.
abbrev pub labels_onto : List Label → List (List ℕ × ℕ) → List Label
labels_onto labels [] = labels
labels_onto labels (e ∷ es) = labels_onto (record { name = e.0; address = e.1 } ∷ labels) es

abbrev pub labels_in : {S : Type 0} → IndexMap (List ℕ) ℕ S → List Label
labels_in m = labels_onto [] m.entries

-- A map knows the address of each label.
abbrev pub KnowsAll : {S : Type 0} → IndexMap (List ℕ) ℕ S → Type 0
KnowsAll m = (name : List ℕ) → get same_text m name ≡ address_of (labels_in m) name

-- A label that isn't defined yet.
abbrev pub IsNew : List Label → Option (List ℕ) → Type 0
IsNew labels None = Unit {0}
IsNew labels (Some name) = address_of labels name ≡ None
