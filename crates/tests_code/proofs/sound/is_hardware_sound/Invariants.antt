use Rattle.std.proofs.Common.{drop}
use Rattle.cg_model.specs.Sound.{SoundHardware}
use Rattle.tests_code.specs.Judged.{Each}
use Rattle.tests_code.proofs.sound.is_hardware_sound.Given as goal

-- all are sound where what is left is
abbrev pub invariant-loop-hardware : goal.invariant-loop-hardware
invariant-loop-hardware l = Each SoundHardware (drop l.hardware-index l.hardware-items) → Each SoundHardware l.machine.hardware
