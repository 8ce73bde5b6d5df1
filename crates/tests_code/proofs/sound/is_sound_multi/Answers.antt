use Rattle.std.proofs.Common.{sym, refl, arith}
use Rattle.tests_code.proofs.FieldLaws.{sound_multi}
use Rattle.tests_code.proofs.sound.is_sound_multi.Goals as goal

pub returns : goal.returns
returns c allowed = sound_multi c.args.machine.now c.args.multi.now _ _ c.as_slice-subs.ensures c.as_slice.ensures (omega (arith, c.if-bits-lt1.false, c.bits.ensures)) (sym c.if-not-are_fields.ensures) (c.if-not-are_inserts.ensures refl) (c.is_rule.ensures allowed)
