use Rattle.std.specs.Int.{w128}
use Rattle.std.specs.Prelude.{unwrap_or}
use Rattle.std.proofs.Common.{◌≡◌, ap, ◌∙◌, arith, to_z, of_z}
use Rattle.std.proofs.lemmas.Int.{ints}
use Rattle.cg_asm_labels.proofs.LabelLemmas.{term_added}
use Rattle.cg_asm_labels.proofs.labels.Labels.number_with.Goals as goal
use Rattle.cg_model_source.specs.E605.{number_with}

pub loop-term-preserved : goal.loop-term-preserved
loop-term-preserved c =
    let labels = c.args.self.now in
    let n = c.in_ok-number.number in
    let same : to_z w128 (of_z w128 n) ≡ n = omega (arith, ints) in
    let at = c.unwrap_or-address.ensures ∙ ap (λ o. unwrap_or o 0) c.address.ensures in
    term_added labels (to_z w128 c.loop-term.number-bits) (to_z w128 (of_z w128 n)) c.term-item.result c.args.sum.now.terms c.as_slice-term-items.result.now c.loop-term.term-index c.unwrap_or-address.result (number_with labels c.args.sum.now) c.as_slice-term-items.ensures
    c.loop-term-test.true c.term-item.is at (same ∙ c.in_ok-number.ensures) c.loop-term.invariant
