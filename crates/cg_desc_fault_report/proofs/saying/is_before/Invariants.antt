use Rattle.std.proofs.Common.{◌≡◌, drop}
use Rattle.cg_desc_fault_report.specs.Saying.{is_before}
use Rattle.cg_desc_fault_report.proofs.saying.is_before.Given as goal

-- what is left stands before what is left of the other where the whole does
abbrev pub invariant-loop-k : goal.invariant-loop-k
invariant-loop-k l = is_before (drop l.k l.one) (drop l.k l.other) ≡ is_before l.one l.other
