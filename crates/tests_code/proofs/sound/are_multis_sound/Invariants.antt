use Rattle.std.proofs.Common.{drop}
use Rattle.cg_model.specs.Sound.{SoundMulti}
use Rattle.tests_code.specs.Judged.{Each}
use Rattle.tests_code.proofs.sound.are_multis_sound.Given as goal

-- all are sound where what is left is
abbrev pub invariant-loop-multi : goal.invariant-loop-multi
invariant-loop-multi l = Each (SoundMulti l.machine) (drop l.multi-index l.multi-items) → Each (SoundMulti l.machine) l.machine.multis
