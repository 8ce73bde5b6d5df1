use Rattle.std.proofs.Common.{◌≡◌, drop, map}
use Rattle.std.specs.List.{filter_map, flat_map}
use Rattle.cg_base.specs.Refusing.{first}
use Rattle.cg_attrs.specs.Clauses.{seen, standing, left_out_standing, left_out}
use Rattle.cg_attrs.proofs.clauses.first_left_out.Given as goal

-- what is left has the first text of the whole
abbrev pub invariant-loop-element : goal.invariant-loop-element
invariant-loop-element g l =
    first (flat_map (left_out_standing g.C.ContentKind.left_out (map seen l.rows)) (filter_map (standing l.elements) (drop l.element-index l.elements))) ≡
    first (left_out g.C.ContentKind.left_out (map seen l.rows) l.elements)
