use Rattle.std.proofs.Common.{◌≡◌, drop}
use Rattle.cg_base.specs.Refusing.{first}
use Rattle.cg_model_faults.specs.E312.{undelimited_from, undelimited}
use Rattle.cg_desc_check_format.proofs.delimited.first_undelimited.Given as goal

-- what is left has the first fault of the whole
abbrev pub invariant-loop-place : goal.invariant-loop-place
invariant-loop-place l = first (undelimited_from l.machine l.operands l.place (drop l.place l.pieces)) ≡ first (undelimited l.machine l.operands l.pieces)
