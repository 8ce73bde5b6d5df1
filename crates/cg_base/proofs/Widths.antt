-- How many bits a value of a mode has.
use Rattle.std.proofs.Common.{◌≢◌, ◌<◌, ◌≤◌, refl, arith}
use Rattle.cg_base.specs.declared.mode.Mode.{Mode}
use Rattle.cg_base.specs.declared.mode.Mode.TheVariants.{Bi, Qi, Hi, Si, Di, Uqi, Uhi, Usi, Udi, Void}
use Rattle.cg_base.specs.Modes.{bits_of}

-- from 1 to 64, where there is a value
pub some_bits : (mode : Mode) → mode ≢ Void → (0 < bits_of mode) × (bits_of mode ≤ 64)
some_bits Bi h = (omega arith, omega arith)
some_bits Qi h = (omega arith, omega arith)
some_bits Hi h = (omega arith, omega arith)
some_bits Si h = (omega arith, omega arith)
some_bits Di h = (omega arith, omega arith)
some_bits Uqi h = (omega arith, omega arith)
some_bits Uhi h = (omega arith, omega arith)
some_bits Usi h = (omega arith, omega arith)
some_bits Udi h = (omega arith, omega arith)
some_bits Void h = absurd (h refl)
