use Rattle.std.proofs.Common.{drop}
use Rattle.cg_model.specs.Sound.{AreApart}
use Rattle.tests_code.proofs.sound.are_apart.Given as goal

-- all are apart where what is left is
abbrev pub invariant-loop-k : goal.invariant-loop-k
invariant-loop-k l = AreApart l.machine (drop l.k l.parts) → AreApart l.machine l.parts
