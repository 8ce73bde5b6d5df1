use Rattle.std.proofs.Common.{◌∙◌, ap, sym}
use Rattle.cg_demo.specs.Demo.{next}
use Rattle.cg_demo.proofs.Walks.{statement_put, after_four}
use Rattle.cg_demo.proofs.source.put_statements.Goals as goal

pub loop-i-preserved : goal.loop-i-preserved
loop-i-preserved c =
    let before = c.loop-i.invariant in
    let x = c.args.draws.now.state in (
      statement_put c.args.text.now c.loop-i.text c.as_slice.result.now c.append.new.self c.args.count x c.loop-i.draws.state c.loop-i._i c.in_ok-append.ensures.ok (c.as_slice.ensures ∙ c.in_ok-line.ensures.text) before.0 before.1,
      c.drawn_statement.ensures.draws ∙ ap (λ s. next (next (next (next s)))) before.1 ∙ sym (after_four c.loop-i._i x),
    )
