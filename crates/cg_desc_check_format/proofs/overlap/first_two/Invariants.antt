use Rattle.std.proofs.Common.{◌≡◌, drop}
use Rattle.cg_model_faults.specs.E310.{first_two}
use Rattle.cg_desc_check_format.proofs.overlap.first_two.Given as goal

-- what is left has the first two fields of the whole
abbrev pub invariant-loop-first : goal.invariant-loop-first
invariant-loop-first l = first_two l.machine (drop l.first-index l.firsts) l.seconds ≡ first_two l.machine l.firsts l.seconds
