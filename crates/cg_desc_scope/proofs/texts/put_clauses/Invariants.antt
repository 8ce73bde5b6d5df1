use Rattle.std.proofs.Common.{◌≡◌, ◌++◌, map, drop}
use Rattle.std.specs.List.{flat_map}
use Rattle.cg_attrs.specs.Clauses.{seen_clause}
use Rattle.cg_desc_scope.specs.Texts.{texts_of_clause}
use Rattle.cg_desc_scope.proofs.texts.put_clauses.Given as goal

-- what stands, with what is left, is the whole
abbrev pub invariant-loop-clause : goal.invariant-loop-clause
invariant-loop-clause l =
    l.list ++ flat_map texts_of_clause (map seen_clause (drop l.clause-index l.clauses)) ≡ l.initial.list ++ flat_map texts_of_clause (map seen_clause l.clauses)
