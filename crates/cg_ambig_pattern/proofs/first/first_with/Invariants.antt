use Rattle.cg_ambig_pattern.specs.First.{NoneBefore}
use Rattle.cg_ambig_pattern.proofs.first.first_with.Given as goal

abbrev pub invariant-loop-second : goal.invariant-loop-second
invariant-loop-second g l = NoneBefore l.patterns (g.J.Judge.asserted l.judge) l.i l.second
