use Rattle.std.proofs.Common.{◌-◌, length, arith}
use Rattle.cg_base.specs.declared.mode.Endian.TheVariants.{Big, Little}
use Rattle.cg_base.proofs.ByteOrders.{put_reads_back}
use Rattle.cg_base.proofs.bytes.put_number.Goals as goal

pub returns-in-Big-clause-reads_back : goal.returns-in-Big-clause-reads_back
returns-in-Big-clause-reads_back c =
    rw c.in-Big.is (put_reads_back Big c.args.offset (length c.args.bytes.now - c.args.offset) c.args.len c.args.value c.args.bytes.now c.write_uint.new.buf _ (omega arith) c.requires.fits c.write_uint.ensures)

pub returns-in-Little-clause-reads_back : goal.returns-in-Little-clause-reads_back
returns-in-Little-clause-reads_back c =
    rw c.in-Little.is (put_reads_back Little c.args.offset (length c.args.bytes.now - c.args.offset) c.args.len c.args.value c.args.bytes.now c.write_uint-in-Little.new.buf _ (omega arith) c.requires.fits c.write_uint-in-Little.ensures)
