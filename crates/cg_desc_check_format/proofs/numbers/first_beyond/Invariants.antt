use Rattle.std.proofs.Common.{◌≡◌, drop}
use Rattle.cg_base.specs.Refusing.{first}
use Rattle.cg_model_faults.specs.E306.{beyond_from}
use Rattle.cg_desc_check_format.proofs.numbers.first_beyond.Given as goal

-- what is left has the first fault of the whole
abbrev pub invariant-loop-place : goal.invariant-loop-place
invariant-loop-place l = first (beyond_from l.count l.place (drop l.place l.numbers)) ≡ first (beyond_from l.count 0 l.numbers)
