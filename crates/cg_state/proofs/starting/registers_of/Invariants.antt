use Rattle.std.proofs.Common.{◌≡◌, ◌+◌, ◌++◌, drop}
use Rattle.cg_state.specs.Starting.{registers_from, all_cells}
use Rattle.cg_state.proofs.starting.registers_of.Given as goal

abbrev pub invariant-loop-h : goal.invariant-loop-h
invariant-loop-h l = (l.registers.items ++ registers_from l.first (drop l.h-index l.hardware) ≡ registers_from 0 l.hardware) × (l.first + all_cells (drop l.h-index l.hardware) ≡ all_cells l.hardware)
