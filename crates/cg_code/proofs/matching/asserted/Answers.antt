use Rattle.cg_code.proofs.Held.{held_by_format}
use Rattle.cg_code.proofs.matching.asserted.Goals as goal

pub pure_eval-requires-clause-gives : goal.pure_eval-requires-clause-gives
pure_eval-requires-clause-gives c = (c.requires.insn.assertion _ c.in-Some.is).gives

pub pure_eval-requires-clause-held : goal.pure_eval-requires-clause-held
pure_eval-requires-clause-held c = held_by_format _ _ _ _ _ c.in-Some.is c.requires.sound c.requires.insn c.requires.long
