use Rattle.std.proofs.Common.{ap}
use Rattle.std.proofs.lemmas.Nat.{or_lt, xor_lt}
use Rattle.cg_base.specs.Modes.{bits_of}
use Rattle.cg_base.specs.Operations.{takes_count}
use Rattle.cg_base.proofs.operation.binary.Goals as goal

pub returns-in-Or-clause-fits : goal.returns-in-Or-clause-fits
returns-in-Or-clause-fits c =
    or_lt (bits_of c.args.mode) c.args.a c.args.b c.requires.left (c.requires.right (ap takes_count c.in-Or.is))

pub returns-in-Xor-clause-fits : goal.returns-in-Xor-clause-fits
returns-in-Xor-clause-fits c =
    xor_lt (bits_of c.args.mode) c.args.a c.args.b c.requires.left (c.requires.right (ap takes_count c.in-Xor.is))
