use Rattle.std.proofs.Common.{rules, ◌≡◌, true}
use Rattle.cg_syntax.proofs.ShowingLemmas.{mark_put}
use Rattle.cg_syntax.proofs.shown.marks_shown.Goals as goal
use Rattle.cg_syntax.specs.Showing.{marks_shown}

pub loop-mark-preserved : goal.loop-mark-preserved
loop-mark-preserved c =
    let m = c.args.machine.now in
    let ks = c.args.operands.now in
    let vs = c.args.values.now in
    let ms = c.args.marks.now in
    let can : c.in_ok-put_mark.field-0 ≡ true = search rules in
    mark_put m ks vs c.loop-mark.text c.put_mark.new.text ms c.loop-mark.mark-index _ (marks_shown m ks vs ms) c.in_ok-put_mark.field-0 c.loop-mark-test.true can c.in_ok-put_mark.ensures c.loop-mark.invariant
