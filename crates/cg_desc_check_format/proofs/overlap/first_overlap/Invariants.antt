use Rattle.std.proofs.Common.{◌≡◌, drop}
use Rattle.cg_base.specs.Refusing.{first}
use Rattle.cg_model_faults.specs.E310.{overlaps_from, overlaps}
use Rattle.cg_desc_check_format.proofs.overlap.first_overlap.Given as goal

-- what is left has the first fault of the whole
abbrev pub invariant-loop-place : goal.invariant-loop-place
invariant-loop-place l = first (overlaps_from l.machine l.place (drop l.place l.parts)) ≡ first (overlaps l.machine l.parts)
