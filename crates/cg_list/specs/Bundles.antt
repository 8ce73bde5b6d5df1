-- The bundle at the beginning of some bytes, by the number of its first instruction.
use Rattle.std.specs.Prelude.{ℕ, ◌+◌, if◌then◌else◌, List, [], ◌∷◌, ◌++◌, take, drop, Option, Some, None, codes}
use Rattle.cg_code.specs.Coded.{values_at}
use Rattle.cg_model.specs.Clashing.{length_at}
use Rattle.cg_model.specs.Encoding.{own_pc}
use Rattle.cg_model_source.specs.Listing.{Decoder, Shown, goes_on_by, bars_before, bundle_from, byte_text}
use Rattle.cg_model.specs.declared.machine.Machine.{Machine}
use Rattle.cg_syntax.specs.Showing.{shown_at}

abbrev pub with_text : Machine → Decoder → ℕ → ℕ → List ℕ → ℕ → Option (List ℕ) → Option Shown
with_text m found n address bytes size None = None
with_text m found n address bytes size (Some text) =
    if goes_on_by m (take size bytes) m.bundle then bars_before text size (bundle_from m found n (address + size) (drop size bytes)) else Some (record { text = text; size = size })

-- An instruction, and behind it so many at most.
abbrev pub bundle_by : Machine → Decoder → ℕ → ℕ → List ℕ → Option ℕ → Option Shown
bundle_by m found n address bytes None = None
bundle_by m found n address bytes (Some k) = with_text m found n address bytes (length_at m k) (shown_at m k (values_at m k bytes (own_pc m address)))

-- Bytes as `.byte` writes them, behind others.
abbrev pub texts_behind : List ℕ → List ℕ
texts_behind [] = []
texts_behind (b ∷ bs) = codes ", " ++ byte_text b ++ texts_behind bs
