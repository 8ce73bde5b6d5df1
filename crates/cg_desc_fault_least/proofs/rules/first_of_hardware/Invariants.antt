use Rattle.std.proofs.Common.{◌≡◌, map, drop}
use Rattle.std.specs.List.{flat_map}
use Rattle.cg_base.specs.Refusing.{first}
use Rattle.cg_attrs.specs.Clauses.{seen_clause}
use Rattle.cg_desc_fault_least.specs.Modes.{hardware_clause}
use Rattle.cg_desc_fault_least.proofs.rules.first_of_hardware.Given as goal

-- the first of what is left is the first of the whole
abbrev pub invariant-loop-clause : goal.invariant-loop-clause
invariant-loop-clause l =
    first (flat_map (hardware_clause l.machine l.hardware) (map seen_clause (drop l.clause-index l.clauses))) ≡ first (flat_map (hardware_clause l.machine l.hardware) (map seen_clause l.clauses))
