use Rattle.std.proofs.Common.{length, refl}
use Rattle.cg_code_mask.proofs.Wholes.{read_front, nothing_read}
use Rattle.cg_code_mask.proofs.bytes.whole_of.Goals as goal

pub returns : goal.returns
returns c = read_front (length c.args.bytes.now) c.read_uint128.result c.args.bytes.now c.type_inv.bytes refl c.requires c.read_uint128.ensures

pub returns-then-len-eq0 : goal.returns-then-len-eq0
returns-then-len-eq0 c = nothing_read c.args.bytes.now c.if-len-eq0.true
