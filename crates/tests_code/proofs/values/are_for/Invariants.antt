use Rattle.std.proofs.Common.{◌≤◌, drop, length}
use Rattle.cg_model.specs.Encoding.{AreFor}
use Rattle.cg_model.specs.Slots.{slots_of}
use Rattle.tests_code.proofs.values.are_for.Given as goal

-- all are values where what is left are
abbrev pub invariant-loop-k : goal.invariant-loop-k
invariant-loop-k l = (l.next ≤ length l.numbers) × (AreFor l.machine (slots_of l.machine (drop l.k l.parts)) (drop l.next l.numbers) → AreFor l.machine (slots_of l.machine l.parts) l.numbers)
