use Rattle.std.proofs.Common.{arith}
use Rattle.cg_desc_choices.proofs.Steps.{ways_room, ways_ended, ways_more}
use Rattle.cg_desc_choices.proofs.ways.next_ways.Goals as goal

pub loop-way-preserved : goal.loop-way-preserved
loop-way-preserved c = record {
  room = ways_room c.put_each.new.list _ c.in_ok-put_each.ensures;
  same = ways_more c.args.anyof.now c.loop-way.list c.put_each.new.list c.args.so_far.now c.loop-way.way-index c.way-item.result c.as_slice.result.now _ (omega arith) c.way-item.is c.as_slice.ensures c.in_ok-put_each.ensures c.loop-way.invariant.same;
}

pub returns : goal.returns
returns c = ways_ended c.args.anyof.now c.loop-way.list c.args.so_far.now c.loop-way.way-index _ c.loop-way.invariant.room (omega arith) c.loop-way.invariant.same
