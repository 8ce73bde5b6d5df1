use Rattle.cg_modes_leaf.specs.Delaying.{Knows}
use Rattle.cg_modes_leaf.proofs.table.delaying.Given as goal

-- the table is of as many steps as were made
abbrev pub invariant-loop-step : goal.invariant-loop-step
invariant-loop-step l = Knows l.machine l._step l.table
