-- E601: a text that no syntax splits. What it says is the text, squeezed.
use Rattle.std.specs.Prelude.{List, []}
use Rattle.cg_model_source.specs.Bundling.{BundlePart, all_refused_as}
use Rattle.cg_model_source.specs.Choosing.{SourceFault}
use Rattle.cg_model_source.specs.Sourcing.{Content, order, parts}

abbrev pub unknown_parts : List BundlePart → List SourceFault
unknown_parts ps = all_refused_as 601 ps

abbrev pub unknown_texts : Content → List SourceFault
unknown_texts (order o) = []
unknown_texts (parts ps) = unknown_parts ps
