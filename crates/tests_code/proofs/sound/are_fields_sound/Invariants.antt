use Rattle.std.proofs.Common.{drop}
use Rattle.cg_model.specs.Sound.{SoundField}
use Rattle.tests_code.specs.Judged.{Each}
use Rattle.tests_code.proofs.sound.are_fields_sound.Given as goal

-- all are sound where what is left is
abbrev pub invariant-loop-field : goal.invariant-loop-field
invariant-loop-field l = Each (SoundField l.machine) (drop l.field-index l.field-items) → Each (SoundField l.machine) l.machine.fields
