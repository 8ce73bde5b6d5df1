use Rattle.std.proofs.Common.{drop}
use Rattle.cg_model.specs.Sound.{SoundOperand}
use Rattle.tests_code.specs.Judged.{Each}
use Rattle.tests_code.proofs.sound.are_operands_sound.Given as goal

-- all are sound where what is left is
abbrev pub invariant-loop-operand : goal.invariant-loop-operand
invariant-loop-operand l = Each (SoundOperand l.machine) (drop l.operand-index l.operand-items) → Each (SoundOperand l.machine) l.machine.operands
