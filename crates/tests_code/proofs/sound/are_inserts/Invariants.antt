use Rattle.std.proofs.Common.{drop}
use Rattle.cg_model.specs.Sound.{AreInserts}
use Rattle.tests_code.proofs.sound.are_inserts.Given as goal

-- all are rules where what is left is
abbrev pub invariant-loop-k : goal.invariant-loop-k
invariant-loop-k l = AreInserts l.machine l.own (drop l.k l.subs) (drop l.k l.rules) → AreInserts l.machine l.own l.subs l.rules
