use Rattle.std.specs.Prelude.{◌<◌, length}
use Rattle.std.proofs.Common.{arith}
use Rattle.cg_model_source.specs.Choosing.{known_all}
use Rattle.cg_syntax_choose.proofs.OrderLemmas.{known_more}
use Rattle.cg_syntax_choose.proofs.order.known_all.Goals as goal

pub loop-k-preserved : goal.loop-k-preserved
loop-k-preserved c =
    let ss = c.args.sums.now in
    let within : c.loop-k.k < length ss = omega (arith, c.len-k-end.ensures) in
    known_more ss c.loop-k.k c.sum_there.result.now c.known.result c.loop-k.numbers.items c.push.new.self.items (known_all ss) within c.sum_there.ensures c.known.ensures c.in_ok-push.ensures.items c.loop-k.invariant
