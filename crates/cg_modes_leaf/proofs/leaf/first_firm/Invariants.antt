use Rattle.std.proofs.Common.{◌≡◌, ◌+◌, drop}
use Rattle.cg_modes_leaf.specs.Firm.{firm_place}
use Rattle.cg_modes_leaf.proofs.leaf.first_firm.Given as goal

abbrev pub invariant-loop-i : goal.invariant-loop-i
invariant-loop-i l = l.i + firm_place (drop l.i l.items) ≡ l.from + firm_place (drop l.from l.items)
