use Rattle.std.proofs.Common.{◌≤◌, map, length, arith}
use Rattle.cg_desc_choices.specs.Ways.{and_chosen, most}
use Rattle.cg_desc_choices.specs.Choices.{seen_chosen}
use Rattle.cg_desc_choices.proofs.Steps.{ways_full, choices_ended}
use Rattle.cg_desc_choices.proofs.ways.put_each.Goals as goal

pub returns-then-len-ge-MOST : goal.returns-then-len-ge-MOST
returns-then-len-ge-MOST c =
    let past : most ≤ length c.loop-choice.list = omega arith in
    ways_full c.loop-choice.list _ _ c.loop-choice.invariant.room past c.loop-choice.invariant.same

pub returns : goal.returns
returns c =
    choices_ended (and_chosen c.args.anyof.now.operand (map seen_chosen c.args.way.now)) c.loop-choice.list c.as_slice-choice-items.result.now c.loop-choice.choice-index _
    c.loop-choice.invariant.room (omega arith) c.loop-choice.invariant.same
