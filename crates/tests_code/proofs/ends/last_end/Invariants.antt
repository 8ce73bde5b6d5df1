use Rattle.std.proofs.Common.{◌≡◌, max, drop}
use Rattle.cg_model.specs.Matching.{last_end}
use Rattle.tests_code.proofs.ends.last_end.Given as goal

-- the end so far, with what is left, is the end of all
abbrev pub invariant-loop-k : goal.invariant-loop-k
invariant-loop-k l = max l.end (last_end l.machine (drop l.k-index l.fields)) ≡ last_end l.machine l.fields
