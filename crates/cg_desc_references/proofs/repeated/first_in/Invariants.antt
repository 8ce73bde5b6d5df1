use Rattle.std.proofs.Common.{◌≡◌, drop, map}
use Rattle.cg_base.specs.Refusing.{first}
use Rattle.cg_attrs.specs.Clauses.{seen_clause}
use Rattle.cg_desc_names.specs.Table.{known}
use Rattle.cg_desc_references.specs.E305.{repeated_behind, repeated}
use Rattle.cg_desc_references.proofs.repeated.first_in.Given as goal

-- the first of what is left is the first of the whole
abbrev pub invariant-loop-count : goal.invariant-loop-count
invariant-loop-count l =
    first (repeated_behind (known l.names) l.form l.element (map seen_clause l.clauses) l.count (map seen_clause (drop l.count l.clauses))) ≡ first (repeated (known l.names) l.form l.element (map seen_clause l.clauses))
