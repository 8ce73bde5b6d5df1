-- The first name that is repeated in the clauses that are left: that of the next clause, or of those behind it.
use Rattle.std.proofs.Common.{◌≡◌, ℕ, ◌+◌, ◌<◌, List, ◌++◌, map, length, drop, sym, ap, ◌∙◌}
use Rattle.std.proofs.Math.ListN.{get_or}
use Rattle.std.proofs.lemmas.List.{at_drop_more}
use Rattle.std.specs.Option.{option_or}
use Rattle.cg_base.specs.Refusing.{first}
use Rattle.cg_attrs.specs.declared.clauses.Clause as declared
use Rattle.cg_attrs.specs.Clauses.{Clause, seen_clause}
use Rattle.cg_desc_elements.specs.declared.element.Element.{Element}
use Rattle.cg_desc_names.specs.Table.{Table}
use Rattle.cg_desc_references.specs.E305.{repeated_at, repeated_behind}
use Rattle.cg_desc_references.proofs.Firsts.{first_append}

pub behind_more :
    (at : Table) (form : ℕ) (e : Element) (all : List Clause) (xs : List declared.Clause) (i : ℕ) (x : declared.Clause) →
    i < length xs → x ≡ get_or xs i x →
    first (repeated_behind at form e all i (map seen_clause (drop i xs))) ≡
    option_or (first (repeated_at at form e all i (seen_clause x))) (first (repeated_behind at form e all (i + 1) (map seen_clause (drop (i + 1) xs))))
behind_more at form e all xs i x less is =
    at_drop_more (λ cs. first (repeated_behind at form e all i (map seen_clause cs))) xs i x less ∙
    ap (λ y. first (repeated_at at form e all i (seen_clause y) ++ repeated_behind at form e all (i + 1) (map seen_clause (drop (i + 1) xs)))) (sym is) ∙
    first_append (repeated_at at form e all i (seen_clause x)) (repeated_behind at form e all (i + 1) (map seen_clause (drop (i + 1) xs)))
