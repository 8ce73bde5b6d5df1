use Rattle.std.proofs.Common.{◌≡◌, drop}
use Rattle.cg_model_faults.specs.E310.{first_meeting}
use Rattle.cg_desc_check_format.proofs.overlap.first_meeting.Given as goal

-- what is left has the first field of the whole
abbrev pub invariant-loop-k : goal.invariant-loop-k
invariant-loop-k l = first_meeting l.machine l.bits (drop l.k-index l.fields) ≡ first_meeting l.machine l.bits l.fields
