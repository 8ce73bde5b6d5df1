use Rattle.std.proofs.Common.{◌≡◌, map, drop}
use Rattle.std.specs.List.{flat_map}
use Rattle.cg_base.specs.Refusing.{first}
use Rattle.cg_attrs.specs.Clauses.{seen_clause}
use Rattle.cg_desc_data.specs.Seen.{seen}
use Rattle.cg_desc_fault_count.specs.Frames.{in_clause}
use Rattle.cg_desc_fault_count.proofs.frames.first_in_clauses.Given as goal

-- the first of what is left is the first of the whole
abbrev pub invariant-loop-clause : goal.invariant-loop-clause
invariant-loop-clause l =
    first (flat_map (in_clause (seen l.selection)) (map seen_clause (drop l.clause-index l.clauses))) ≡ first (flat_map (in_clause (seen l.selection)) (map seen_clause l.clauses))
