use Rattle.std.proofs.Common.{◌≡◌, drop}
use Rattle.cg_base.specs.Refusing.{first}
use Rattle.cg_model_faults.specs.E311.{unfit_from, unfit_constants}
use Rattle.cg_desc_check_format.proofs.constants.first_unfit.Given as goal

-- what is left has the first fault of the whole
abbrev pub invariant-loop-place : goal.invariant-loop-place
invariant-loop-place l = first (unfit_from l.machine l.place (drop l.place l.parts)) ≡ first (unfit_constants l.machine l.parts)
