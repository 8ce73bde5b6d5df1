use Rattle.std.proofs.Common.{◌≡◌, drop, map}
use Rattle.cg_attrs.specs.Clauses.{seen_clause}
use Rattle.cg_desc_references.specs.E305.{has_unit}
use Rattle.cg_desc_references.proofs.repeated_units.has_unit.Given as goal

-- what is left has the unit where the whole has
abbrev pub invariant-loop-clause : goal.invariant-loop-clause
invariant-loop-clause l = has_unit l.name (map seen_clause (drop l.clause-index l.clauses)) ≡ has_unit l.name (map seen_clause l.clauses)
