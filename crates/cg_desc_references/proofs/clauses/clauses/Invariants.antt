use Rattle.std.proofs.Common.{◌≡◌, ◌++◌, drop, map}
use Rattle.std.specs.List.{filter_map}
use Rattle.cg_attrs.specs.Clauses.{seen_clause, standing}
use Rattle.cg_desc_references.proofs.clauses.clauses.Given as goal

-- the clauses so far, with those of what is left, are those of the whole
abbrev pub invariant-loop-element : goal.invariant-loop-element
invariant-loop-element l = map seen_clause l.list.items ++ filter_map (standing l.elements) (drop l.element-index l.elements) ≡ filter_map (standing l.elements) l.elements
