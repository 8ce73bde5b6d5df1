use Rattle.cg_base.proofs.Words.{rotated_ends}
use Rattle.cg_base.proofs.arithmetic.rotated.Goals as goal

pub returns-then-n-bits-clause-value : goal.returns-then-n-bits-clause-value
returns-then-n-bits-clause-value c = rotated_ends c.args.bits c.args.n c.args.a c.requires.fits c.if-n-bits.either
