use Rattle.std.proofs.Common.{drop}
use Rattle.cg_code_mask.proofs.Formats.{Gathered}
use Rattle.cg_code_mask.proofs.format.constants_of.Given as goal

abbrev pub invariant-loop-part : goal.invariant-loop-part
invariant-loop-part l = Gathered l.machine l.insn.parts (drop l.part-index l.part-items) l.all.cover l.all.value
