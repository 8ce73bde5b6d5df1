use Rattle.std.proofs.Common.{drop}
use Rattle.cg_code.proofs.Filled.{Putting}
use Rattle.cg_code.proofs.putting.in_place.Given as goal

abbrev pub invariant-loop-part : goal.invariant-loop-part
invariant-loop-part l = Putting l.machine l.pc l.insn.parts (drop l.part-index l.part-items) l.numbers l.slot l.bytes
