use Rattle.std.proofs.Common.{drop}
use Rattle.cg_code.proofs.Holding.{Filling}
use Rattle.cg_code.proofs.extracting.values_of.Given as goal

abbrev pub invariant-loop-part : goal.invariant-loop-part
invariant-loop-part l = Filling l.machine l.bytes l.pc l.insn.parts (drop l.part-index l.part-items) l.all
