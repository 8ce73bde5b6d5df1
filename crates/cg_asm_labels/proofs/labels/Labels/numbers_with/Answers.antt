use Rattle.std.specs.Int.{w128}
use Rattle.std.specs.Prelude.{◌<◌, length}
use Rattle.std.proofs.Common.{◌≡◌, ◌∙◌, arith, to_z, of_z}
use Rattle.std.proofs.lemmas.Int.{ints}
use Rattle.cg_asm_labels.proofs.LabelLemmas.{number_more}
use Rattle.cg_asm_labels.proofs.labels.Labels.numbers_with.Goals as goal
use Rattle.cg_model_source.specs.E605.{numbers_with}

pub loop-k-preserved : goal.loop-k-preserved
loop-k-preserved c =
    let ss = c.args.sums.now in
    let within : c.loop-k.k < length ss = omega (arith, c.len-k-end.ensures) in
    let n = c.in_ok-number.number in
    let same : to_z w128 (of_z w128 n) ≡ n = omega (arith, ints) in
    number_more c.args.self.now ss c.loop-k.k c.sum_there.result.now (to_z w128 (of_z w128 n)) c.loop-k.numbers.items c.push.new.self.items (numbers_with c.args.self.now ss) within c.sum_there.ensures (same ∙ c.in_ok-number.ensures) c.in_ok-push.ensures.items
    c.loop-k.invariant
