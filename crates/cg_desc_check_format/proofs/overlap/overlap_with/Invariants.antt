use Rattle.std.proofs.Common.{◌≡◌, drop}
use Rattle.cg_base.specs.Refusing.{first}
use Rattle.cg_model_faults.specs.E310.{overlaps_with}
use Rattle.cg_desc_check_format.proofs.overlap.overlap_with.Given as goal

-- what is left has the first fault of the whole
abbrev pub invariant-loop-part : goal.invariant-loop-part
invariant-loop-part l = first (overlaps_with l.machine l.place l.fields (drop l.part-index l.behind)) ≡ first (overlaps_with l.machine l.place l.fields l.behind)
