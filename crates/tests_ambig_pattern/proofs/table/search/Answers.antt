use Rattle.tests_ambig_pattern.proofs.Tables.{all}
use Rattle.tests_ambig_pattern.proofs.table.search.Goals as goal

pub first_pair-requires-clause-sound : goal.first_pair-requires-clause-sound
first_pair-requires-clause-sound c = all c.args.judge.now.asked c.args.patterns.now c.loop-k.k c.loop-k-test.false c.loop-k.invariant
