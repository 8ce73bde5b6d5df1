use Rattle.std.proofs.Common.{rules}
use Rattle.cg_ambig_pattern.proofs.Gathering.{room_first, both_halves}
use Rattle.cg_ambig_pattern.proofs.ways.+gather.Goals as goal

pub gather-requires : goal.gather-requires
gather-requires g t c κs within =
    let room = room_first c.args.ways.now.count c.highest_bit-top.result c.args.free c.highest_bit-top.ensures c.requires.room in
    search (rules, room)

pub returns : goal.returns
returns g t c = both_halves (g.T.Test.passes c.args.test.now) c.args.value c.highest_bit-top.result c.args.free c.args.ways.now c.gather.new.ways c.gather-2.new.ways c.highest_bit-top.ensures c.gather.ensures c.gather-2.ensures
