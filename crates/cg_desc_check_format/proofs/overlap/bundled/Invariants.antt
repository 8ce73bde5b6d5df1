use Rattle.std.proofs.Common.{◌≡◌, drop}
use Rattle.cg_base.specs.Refusing.{first}
use Rattle.cg_model_faults.specs.E316.{bundled_from}
use Rattle.cg_desc_check_format.proofs.overlap.bundled.Given as goal

-- what is left has the first fault of the whole
abbrev pub invariant-loop-place : goal.invariant-loop-place
invariant-loop-place l = first (bundled_from l.machine l.k l.place (drop l.place l.parts)) ≡ first (bundled_from l.machine l.k 0 l.parts)
