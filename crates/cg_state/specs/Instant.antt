-- What an instruction sees of the state before its step.
use Rattle.std.specs.Prelude.{ℕ, Bool, slice_get}
use Rattle.std.specs.Option.{unwrap_or}
use Rattle.cg_model_effects.specs.Effects.{Before}
use Rattle.cg_state.specs.Seen.{Seen, cell_of}

-- From its own address, where devices hold these ranges. What isn't there is 0; the rules of effects ask for it nowhere.
abbrev pub before_of : ℕ → (ℕ → ℕ → Bool) → Seen → Before
before_of at holds s = record { at = at; cell = λ hardware index. unwrap_or (cell_of s hardware index) 0; byte = λ address. unwrap_or (slice_get s.ram address) 0; holds = holds }
