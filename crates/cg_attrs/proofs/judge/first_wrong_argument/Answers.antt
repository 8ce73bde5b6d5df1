use Rattle.std.proofs.Common.{sym, ap, ◌∙◌, inl, inr}
use Rattle.std.specs.List.{flat_map}
use Rattle.cg_base.specs.Refusing.{first}
use Rattle.cg_attrs.specs.Judging.{wrong_argument}
use Rattle.cg_attrs.proofs.Arguments.{no_rows, no_arguments}
use Rattle.cg_attrs.proofs.judge.first_wrong_argument.Goals as goal

-- the rows or the arguments have come to their end
pub returns : goal.returns
returns g c =
    let rows = c.loop-row.row-iterator.a.rest.now in
    let arguments = c.loop-row.row-iterator.b.rest.now in
    elim c.in-None.ensures.steps [
      | inl p ↦ sym (sym c.loop-row.invariant ∙ ap (λ pairs. first (flat_map (wrong_argument g.C.ContentKind.wrong) pairs)) (no_rows rows arguments p.1.0))
      | inr p ↦ sym (sym c.loop-row.invariant ∙ ap (λ pairs. first (flat_map (wrong_argument g.C.ContentKind.wrong) pairs)) (no_arguments rows arguments p.1.0))
    ]
