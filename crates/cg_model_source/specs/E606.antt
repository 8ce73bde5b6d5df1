-- E606: an `.org` below the address. What it says is its number.
use Rattle.std.specs.Prelude.{ℕ, nat_lt, if◌then◌else◌, List, [], ◌∷◌}
use Rattle.cg_base.specs.Numerals.{hex_text}
use Rattle.cg_model_source.specs.Choosing.{SourceFault, alone}
use Rattle.cg_model_source.specs.Sourcing.{Content, order, origin}

abbrev pub below_address : ℕ → Content → List SourceFault
below_address address (order (origin n)) = if nat_lt n address then alone 606 (hex_text n) ∷ [] else []
below_address address _ = []
