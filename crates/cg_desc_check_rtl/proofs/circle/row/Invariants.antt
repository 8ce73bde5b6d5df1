use Rattle.cg_desc_check_rtl.specs.Tables.{seen_rule}
use Rattle.cg_desc_check_rtl.proofs.Leading.{RowTo}
use Rattle.cg_desc_check_rtl.proofs.circle.row.Given as goal

abbrev pub invariant-loop-hardware : goal.invariant-loop-hardware
invariant-loop-hardware l = RowTo l.machine l.table (seen_rule l.target) l.sets l.row.items l.hardware
