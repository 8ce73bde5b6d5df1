use Rattle.std.proofs.Common.{◌≡◌, ◌∙◌, ◌<◌, length, arith}
use Rattle.cg_desc_check_rtl.proofs.Leading.{knows_all}
use Rattle.cg_desc_check_rtl.proofs.Settling.{settled_all}
use Rattle.cg_desc_check_rtl.proofs.circle.needs_itself.Goals as goal

pub returns-then-is_settled : goal.returns-then-is_settled
returns-then-is_settled c =
    let within : c.loop-round._round < length c.args.machine.now.hardware = omega (arith, c.loop-round-test.true, c.len-round-end.ensures) in
    c.in_table.ensures ∙ settled_all _ _ _ _ _ _ within c.loop-round.invariant c.in_ok-once.ensures (c.is_settled.ensures c.if-is_settled.true)

pub returns : goal.returns
returns c =
    let all : c.loop-round._round ≡ length c.args.machine.now.hardware = omega (arith, c.loop-round-test.false, c.loop-round.auto._round-end, c.len-round-end.ensures) in
    c.in_table-2.ensures ∙ knows_all _ _ _ _ _ all c.loop-round.invariant
