use Rattle.std.proofs.Common.{◌≡◌, drop}
use Rattle.cg_rtl_resolve.specs.Names.{found_under}
use Rattle.cg_desc_scope.specs.Lent.{seen_units}
use Rattle.cg_desc_scope.proofs.timing.unit_under.Given as goal

-- what is left gives what the whole gives
abbrev pub invariant-loop-unit : goal.invariant-loop-unit
invariant-loop-unit l =
    found_under l.name (seen_units (drop l.unit-index l.units)) ≡ found_under l.name (seen_units l.units)
