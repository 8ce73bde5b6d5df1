use Rattle.cg_desc_check_rtl.specs.Tables.{AreAlike}
use Rattle.cg_desc_check_rtl.proofs.circle.is_settled.Given as goal

abbrev pub invariant-loop-hardware : goal.invariant-loop-hardware
invariant-loop-hardware l = AreAlike l.hardware l.table l.next
