use Rattle.cg_ambig_pattern.proofs.Meeting.{NoneOf}
use Rattle.cg_ambig_pattern.proofs.pairs.can_meet.Given as goal

abbrev pub invariant-loop-k : goal.invariant-loop-k
invariant-loop-k g l = NoneOf l.p l.q l.ways (g.J.Judge.asserted l.judge l.j) l.k
