-- E608: a line that isn't as lines are: a byte that may not stand in it, too many bytes, a directive that isn't as said, or nothing
-- beside a `||`.
use Rattle.std.specs.Prelude.{List, [], ◌∷◌, ◌++◌, codes}
use Rattle.cg_model_source.specs.Bundling.{BundlePart, empty}
use Rattle.cg_model_source.specs.Choosing.{SourceFault, alone}
use Rattle.cg_model_source.specs.Sourcing.{Content, Order, order, parts, malformed}

-- A line at fault that has no directive.
abbrev pub malformed_line : SourceFault
malformed_line = alone 608 (codes "line")

abbrev pub malformed_order : Order → List SourceFault
malformed_order (malformed name) = alone 608 name ∷ []
malformed_order _ = []

abbrev pub empty_part : BundlePart → List SourceFault
empty_part empty = malformed_line ∷ []
empty_part _ = []

abbrev pub empty_parts : List BundlePart → List SourceFault
empty_parts [] = []
empty_parts (p ∷ ps) = empty_part p ++ empty_parts ps

abbrev pub malformed_content : Content → List SourceFault
malformed_content (order o) = malformed_order o
malformed_content (parts ps) = empty_parts ps
