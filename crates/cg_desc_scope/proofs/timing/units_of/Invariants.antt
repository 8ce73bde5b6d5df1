use Rattle.std.proofs.Common.{◌≡◌, ◌++◌, drop}
use Rattle.std.specs.List.{filter_map}
use Rattle.cg_desc_scope.specs.Timing.{unit_of, units_of}
use Rattle.cg_desc_scope.specs.Lent.{seen_units}
use Rattle.cg_desc_scope.proofs.timing.units_of.Given as goal

-- what stands, with what is left, is the whole
abbrev pub invariant-loop-clause : goal.invariant-loop-clause
invariant-loop-clause l =
    seen_units l.list.items ++ filter_map unit_of (drop l.clause-index l.clause-items) ≡ units_of l.model
