use Rattle.std.proofs.Common.{sym, ◌∙◌}
use Rattle.cg_syntax_split.proofs.Passing.{stops, goes_on, split_filled}
use Rattle.cg_syntax_split.proofs.splitting.split.Goals as goal

-- a mark that takes nothing: there is no split
pub returns-in-None : goal.returns-in-None
returns-in-None c =
    stops c.args.machine.now c.args.keywords.now c.args.operands.now c.loop-mark.found c.args.marks.now c.loop-mark.mark-index _ c.loop-mark.rest.now (split_filled c.args.machine.now c.args.keywords.now c.args.operands.now c.args.marks.now c.args.text.now) c.loop-mark-test.true (sym c.in-None.is ∙ c.in_ok-passed.ensures) c.loop-mark.invariant

-- a mark that takes its part
pub loop-mark-preserved : goal.loop-mark-preserved
loop-mark-preserved c =
    goes_on c.args.machine.now c.args.keywords.now c.args.operands.now c.loop-mark.found c.put.new.found c.args.marks.now c.loop-mark.mark-index _ c.loop-mark.rest.now c.behind-rest.result.now c.in-Some.passed (split_filled c.args.machine.now c.args.keywords.now c.args.operands.now c.args.marks.now c.args.text.now) c.loop-mark-test.true (sym c.in-Some.is ∙ c.in_ok-passed.ensures) c.in_ok-put-in-Some.ensures c.behind-rest.ensures c.loop-mark.invariant
