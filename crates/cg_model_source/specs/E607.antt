-- E607: the image passes 1 MiB, or its end the machine's addresses.
use Rattle.std.specs.Prelude.{ℕ, ◌-◌, ◌^◌, ◌||◌, nat_lt, if◌then◌else◌, List, [], ◌∷◌, codes}
use Rattle.cg_model_source.specs.Choosing.{SourceFault, alone}

-- An image that begins at a base and ends at an address of a machine whose addresses have so many bits.
abbrev pub too_large : ℕ → ℕ → ℕ → List SourceFault
too_large bits base end = if nat_lt (2 ^ 20) (end - base) || nat_lt (2 ^ bits) end then alone 607 (codes "image") ∷ [] else []
