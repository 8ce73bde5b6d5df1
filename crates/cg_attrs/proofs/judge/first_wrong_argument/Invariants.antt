use Rattle.std.proofs.Common.{◌≡◌, map}
use Rattle.cg_base.specs.Refusing.{first}
use Rattle.cg_attrs.specs.Clauses.{seen}
use Rattle.cg_attrs.specs.Judging.{wrong_arguments}
use Rattle.cg_attrs.proofs.judge.first_wrong_argument.Given as goal

-- what is left has the first text of the whole
abbrev pub invariant-loop-row : goal.invariant-loop-row
invariant-loop-row g l =
    first (wrong_arguments g.C.ContentKind.wrong (map seen l.row-iterator.a.rest.now) l.row-iterator.b.rest.now) ≡
    first (wrong_arguments g.C.ContentKind.wrong (map seen l.rows) l.arguments)
