use Rattle.std.proofs.Common.{drop}
use Rattle.cg_model.specs.Sound.{SoundInsn}
use Rattle.tests_code.specs.Judged.{Each}
use Rattle.tests_code.proofs.sound.are_insns_sound.Given as goal

-- all are sound where what is left is
abbrev pub invariant-loop-insn : goal.invariant-loop-insn
invariant-loop-insn l = Each (SoundInsn l.machine) (drop l.insn-index l.insn-items) → Each (SoundInsn l.machine) l.machine.insns
