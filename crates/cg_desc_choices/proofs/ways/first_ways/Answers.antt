use Rattle.std.proofs.Common.{arith}
use Rattle.cg_desc_choices.proofs.Steps.{ways_room, anyofs_ended, anyofs_more}
use Rattle.cg_desc_choices.proofs.ways.first_ways.Goals as goal

pub loop-anyof-preserved : goal.loop-anyof-preserved
loop-anyof-preserved c = record {
  room = ways_room c.in_ok-so_far.so_far _ c.in_ok-so_far.ensures;
  same = anyofs_more c.args.anyofs.now c.loop-anyof.anyof-index c.anyof-item.result c.loop-anyof.so_far c.as_slice.result.now c.in_ok-so_far.so_far _ (omega arith) c.anyof-item.is c.as_slice.ensures c.in_ok-so_far.ensures c.loop-anyof.invariant.same;
}

pub returns : goal.returns
returns c = anyofs_ended c.args.anyofs.now c.loop-anyof.so_far c.loop-anyof.anyof-index _ c.loop-anyof.invariant.room (omega arith) c.loop-anyof.invariant.same
