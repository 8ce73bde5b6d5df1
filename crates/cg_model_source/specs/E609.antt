-- E609: a bundle of more parts than the machine's bundles have. What it says is how many these have.
use Rattle.std.specs.Prelude.{ℕ, nat_lt, if◌then◌else◌, pos, List, [], ◌∷◌, length}
use Rattle.std.specs.Fmt.{signed_decimal}
use Rattle.cg_model_source.specs.Bundling.{BundlePart}
use Rattle.cg_model_source.specs.Choosing.{SourceFault, alone}
use Rattle.cg_model_source.specs.Sourcing.{Content, order, parts}

abbrev pub too_wide : ℕ → List BundlePart → List SourceFault
too_wide width ps = if nat_lt width (length ps) then alone 609 (signed_decimal (pos width)) ∷ [] else []

abbrev pub too_wide_content : ℕ → Content → List SourceFault
too_wide_content width (order o) = []
too_wide_content width (parts ps) = too_wide width ps
