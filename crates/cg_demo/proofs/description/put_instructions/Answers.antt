use Rattle.std.proofs.Common.{◌∙◌, ap, sym}
use Rattle.cg_demo.specs.Demo.{next}
use Rattle.cg_demo.proofs.Walks.{instruction_put, after_next}
use Rattle.cg_demo.proofs.description.put_instructions.Goals as goal

pub loop-k-preserved : goal.loop-k-preserved
loop-k-preserved c =
    let before = c.loop-k.invariant in
    let x = c.args.draws.now.state in (
      instruction_put c.args.text.now c.loop-k.text c.as_slice.result.now c.append.new.self c.operation.result.now x c.loop-k.draws.state c.loop-k.k c.draw.result c.in_ok-append.ensures.ok (c.as_slice.ensures ∙ c.in_ok-line.ensures) c.operation.ensures c.draw.ensures.drawn before.0 before.1,
      c.draw.ensures.next ∙ ap next before.1 ∙ sym (after_next c.loop-k.k x),
    )
