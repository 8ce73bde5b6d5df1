use Rattle.std.proofs.Common.{refl, arith}
use Rattle.tests_code.proofs.PartLaws.{sound_insn}
use Rattle.tests_code.proofs.sound.is_sound_insn.Goals as goal

pub returns : goal.returns
returns c allowed = sound_insn c.args.machine.now c.args.insn.now _ c.as_slice-parts.ensures (omega (arith, c.if-bytes_of-gt16.false, c.bytes_of.ensures)) (c.if-not-are_apart.ensures refl) (omega (arith, c.if-slot_count-gt16.false, c.slot_count.ensures)) (c.is_assertion_where.ensures allowed)
