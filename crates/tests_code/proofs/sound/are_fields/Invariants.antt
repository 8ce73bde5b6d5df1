use Rattle.std.proofs.Common.{◌≡◌, drop}
use Rattle.cg_model.specs.Sound.{are_fields}
use Rattle.tests_code.proofs.sound.are_fields.Given as goal

-- what is left is there just where all are
abbrev pub invariant-loop-k : goal.invariant-loop-k
invariant-loop-k l = are_fields l.machine (drop l.k-index l.subs) ≡ are_fields l.machine l.subs
