use Rattle.tests_ambig_pattern.proofs.Tables.{SoFar}
use Rattle.tests_ambig_pattern.proofs.table.search.Given as goal

abbrev pub invariant-loop-k : goal.invariant-loop-k
invariant-loop-k l = SoFar l.judge.asked l.patterns l.k
