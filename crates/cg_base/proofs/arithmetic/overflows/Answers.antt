use Rattle.std.proofs.Common.{◌-◌, ◌*◌, ◌^◌, ◌%◌, pos, neg_ℤ, ◌≤ℤ◌, arith}
use Rattle.std.proofs.lemmas.Int.{ints}
use Rattle.cg_base.proofs.Words.{overflows_read}
use Rattle.cg_base.proofs.arithmetic.overflows.Goals as goal

pub returns-else-z-half : goal.returns-else-z-half
returns-else-z-half c =
    let low : neg_ℤ (pos (1 * 2 ^ (c.args.bits - 1) % 2 ^ 128)) ≤ℤ c.args.z = grind (arith, ints, c.if-z-half.false) in
    overflows_read c.args.bits c.args.z c.requires.some c.requires.few c.if-bits-eq1.false c.ranges.z low
