use Rattle.cg_code.proofs.Encoded.{Losing}
use Rattle.cg_code.proofs.encoding.first_lost.Given as goal

abbrev pub invariant-loop-k : goal.invariant-loop-k
invariant-loop-k l = Losing l.numbers l.backs l.k
