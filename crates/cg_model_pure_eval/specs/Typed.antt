-- A value together with its mode, or why there is none.
use Rattle.std.specs.Prelude.{◌≡◌, ◌≢◌, ℕ, ◌<◌, ◌^◌, Result, Ok, Err}
use Rattle.cg_base.specs.declared.Mode.{Mode}
use Rattle.cg_base.specs.declared.Mode.TheVariants.{Void}
use Rattle.cg_base.specs.Modes.{bits_of}
use Rattle.cg_model.specs.Checked.{Verdict}
use Rattle.cg_model.specs.declared.judged.ModeFault.{ModeFault}
use Rattle.cg_model_pure_eval.specs.declared.typed.Typed.{Typed}

abbrev pub Answer : Type 0
Answer = Result Typed ModeFault

-- The mode of the value, or the fault.
abbrev pub judged : Answer → Verdict
judged (Ok t) = Ok t.mode
judged (Err e) = Err e

-- What value there is, where there is one, is this.
abbrev pub Gives : Answer → ℕ → Type 0
Gives (Ok t) v = t.value ≡ v
Gives (Err e) v = Unit {0}

-- It lies below 2 ^ bits of its mode.
abbrev pub Fits : Answer → Type 0
Fits (Ok t) = t.value < 2 ^ bits_of t.mode
Fits (Err e) = Unit {0}

-- Its mode has bits.
abbrev pub HasBits : Answer → Type 0
HasBits (Ok t) = t.mode ≢ Void
HasBits (Err e) = Unit {0}

-- Its mode is this one.
abbrev pub IsIn : Answer → Mode → Type 0
IsIn (Ok t) k = t.mode ≡ k
IsIn (Err e) k = Unit {0}
