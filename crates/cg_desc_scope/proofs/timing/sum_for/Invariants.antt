use Rattle.std.proofs.Common.{◌≡◌, ◌+◌, ◌*◌, ◌≤◌, map, drop}
use Rattle.cg_model_faults.specs.E308.{sum_of}
use Rattle.cg_desc_scope.specs.Timing.{cycles_at}
use Rattle.cg_desc_scope.specs.Lent.{seen_units, seen_forms}
use Rattle.cg_desc_scope.proofs.timing.sum_for.Given as goal

-- what stands, with what is left, is the sum; and each entry adds a number of 64 bits
abbrev pub invariant-loop-entry : goal.invariant-loop-entry
invariant-loop-entry l = record {
  whole : l.sum + sum_of (map (cycles_at (seen_units l.units)) (seen_forms (drop l.entry-index l.entries))) ≡ sum_of (map (cycles_at (seen_units l.units)) (seen_forms l.entries));
  bounded : l.sum ≤ l.entry-index * 18446744073709551615;
}
