use Rattle.std.proofs.Common.{◌≡◌, drop}
use Rattle.cg_model.specs.Sound.{is_among}
use Rattle.tests_code.proofs.allowed.is_among.Given as goal

-- it stands among what is left just where it stands among all
abbrev pub invariant-loop-k : goal.invariant-loop-k
invariant-loop-k l = is_among l.number (drop l.k-index l.fields) ≡ is_among l.number l.fields
