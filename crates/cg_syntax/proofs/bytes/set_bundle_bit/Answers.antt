use Rattle.std.proofs.Common.{sym}
use Rattle.cg_syntax.proofs.ByteLemmas.{bit_placed}
use Rattle.cg_syntax.proofs.bytes.set_bundle_bit.Goals as goal

pub put_bits-requires-clause-placed : goal.put_bits-requires-clause-placed
put_bits-requires-clause-placed c = bit_placed c.args.machine.now c.in-Some.k c.in-Some-get.field.now c.requires.sound (sym c.in-Some-get.ensures.value)
