use Rattle.std.proofs.Common.{◌-◌, length}
use Rattle.cg_base.specs.declared.mode.Endian.TheVariants.{Big, Little}
use Rattle.cg_base.proofs.ByteOrders.{number_fits}
use Rattle.cg_base.proofs.bytes.number_at.Goals as goal

pub returns-in-Big-clause-fits : goal.returns-in-Big-clause-fits
returns-in-Big-clause-fits c =
    rw c.read_uint.ensures (number_fits Big c.args.len (length c.args.bytes.now - c.args.offset) c.args.offset c.args.bytes.now c.type_inv.bytes)

pub returns-in-Little-clause-fits : goal.returns-in-Little-clause-fits
returns-in-Little-clause-fits c =
    rw c.read_uint-in-Little.ensures (number_fits Little c.args.len (length c.args.bytes.now - c.args.offset) c.args.offset c.args.bytes.now c.type_inv.bytes)
