use Rattle.cg_modes_leaf.proofs.Tables.{RowTo}
use Rattle.cg_modes_leaf.proofs.table.row.Given as goal

abbrev pub invariant-loop-hardware : goal.invariant-loop-hardware
invariant-loop-hardware l = RowTo l.machine l.table l.sets l.row l.hardware
