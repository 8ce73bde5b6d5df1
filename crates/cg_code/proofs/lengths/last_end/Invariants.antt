use Rattle.std.proofs.Common.{drop}
use Rattle.cg_code.proofs.Ends.{Ended}
use Rattle.cg_code.proofs.lengths.last_end.Given as goal

abbrev pub invariant-loop-k : goal.invariant-loop-k
invariant-loop-k l = Ended l.machine l.fields (drop l.k-index l.fields) l.end
