use Rattle.std.proofs.Common.{◌≡◌, ◌++◌, drop, map}
use Rattle.std.specs.List.{flat_map}
use Rattle.cg_attrs.specs.Clauses.{seen_clause}
use Rattle.cg_desc_references.specs.References.{names_in, references}
use Rattle.cg_desc_references.proofs.references.references_of.Given as goal

-- the names so far, with those of what is left, are those of the whole
abbrev pub invariant-loop-clause : goal.invariant-loop-clause
invariant-loop-clause l = l.list ++ flat_map (names_in l.selected l.kind) (map seen_clause (drop l.clause-index l.clause-items)) ≡ references l.selected l.kind l.form
