use Rattle.std.proofs.Common.{refl}
use Rattle.tests_code.proofs.FieldLaws.{each_step}
use Rattle.cg_model.specs.Sound.{SoundMulti}
use Rattle.tests_code.proofs.sound.are_multis_sound.Goals as goal

pub loop-multi-preserved : goal.loop-multi-preserved
loop-multi-preserved c rest = c.loop-multi.invariant (each_step (SoundMulti c.args.machine.now) _ _ _ c.multi-item.result c.loop-multi-test.true c.multi-item.is (c.if-not-is_sound_multi.ensures refl) rest)
