use Rattle.std.proofs.Common.{◌∙◌, FitsSigned, rules}
use Rattle.std.specs.Int.{w64}
use Rattle.std.proofs.lemmas.Int.{to_z-of_z}
use Rattle.cg_demo.proofs.Texts.{made_as}
use Rattle.cg_demo.proofs.Walks.{statement_drawn}
use Rattle.cg_demo.proofs.source.drawn_statement.Goals as goal

pub returns-clause-text : goal.returns-clause-text
returns-clause-text c =
    let k = c.draw.ensures in
    let d = c.draw-d.ensures in
    let a = c.draw-a.ensures in
    let small : FitsSigned w64 c.value-value.result = search rules in
    made_as c.statement.result _ _ c.statement.ensures
    (statement_drawn _ _ _ _ _ _ _ _ _ _ k.drawn k.next d.drawn d.next a.drawn a.next c.draw-2.ensures.drawn (to_z-of_z w64 c.value-value.result small ∙ c.value-value.ensures))
