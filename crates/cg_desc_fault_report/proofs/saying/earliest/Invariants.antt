use Rattle.std.proofs.Common.{◌≡◌, length}
use Rattle.std.specs.Option.{option_copied}
use Rattle.cg_desc_fault_report.specs.Saying.{earliest}
use Rattle.cg_desc_fault_report.proofs.Earliest.{earliest_before}
use Rattle.cg_desc_fault_report.proofs.saying.earliest.Given as goal

-- what is left, in front of the earliest so far, has the earliest of the whole
abbrev pub invariant-loop-last : goal.invariant-loop-last
invariant-loop-last l = earliest_before l.rest (option_copied l.best) ≡ earliest l.list

abbrev pub decreases-loop-last : goal.decreases-loop-last
decreases-loop-last l = length l.rest
