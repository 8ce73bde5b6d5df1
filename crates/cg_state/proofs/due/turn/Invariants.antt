use Rattle.std.proofs.Common.{◌≡◌, ◌-◌, ◌++◌, length, map, take, drop}
use Rattle.cg_state.specs.Seen.{turned}
use Rattle.cg_state.proofs.due.turn.Given as goal

abbrev pub invariant-loop-k : goal.invariant-loop-k
invariant-loop-k l = take l.k l.due ++ map turned (drop l.k l.due) ≡ map turned l.initial.due

abbrev pub decreases-loop-k : goal.decreases-loop-k
decreases-loop-k l = length l.initial.due - l.k
