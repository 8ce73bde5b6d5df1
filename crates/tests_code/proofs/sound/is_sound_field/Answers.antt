use Rattle.std.proofs.Common.{refl, arith}
use Rattle.tests_code.proofs.FieldLaws.{sound_field}
use Rattle.tests_code.proofs.sound.is_sound_field.Goals as goal

pub returns : goal.returns
returns c allowed = sound_field _ _ (c.if-not-is_in_word.ensures refl) (omega (arith, c.if-field-bits.false, c.bits.ensures)) (c.if-not-is_rule_where.ensures refl) (c.is_rule_where-2.ensures allowed)
