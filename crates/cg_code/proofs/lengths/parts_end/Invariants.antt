use Rattle.std.proofs.Common.{drop}
use Rattle.cg_code.proofs.Ends.{PartsEnded}
use Rattle.cg_code.proofs.lengths.parts_end.Given as goal

abbrev pub invariant-loop-part : goal.invariant-loop-part
invariant-loop-part l = PartsEnded l.machine l.parts (drop l.part-index l.parts) l.end
