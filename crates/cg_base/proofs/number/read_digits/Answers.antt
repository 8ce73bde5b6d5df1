use Rattle.std.proofs.Common.{◌*◌, ◌<◌, length, sym, ap, ◌∙◌, arith}
use Rattle.std.specs.Char.{digit_value}
use Rattle.std.proofs.lemmas.Bool.Decides.{nat_tests}
use Rattle.cg_base.proofs.Readings.{grows_too_large, read_to_the_end}
use Rattle.cg_base.proofs.number.read_digits.Goals as goal

pub returns-in_err-checked_mul : goal.returns-in_err-checked_mul
returns-in_err-checked_mul c =
    let e = ap (λ b. c.loop-byte.value * b) c.from-in-loop-byte.ensures in
    c.from_residual-in_err-checked_mul.ensures ∙ sym (grows_too_large c.args.base c.loop-byte.value c.loop-byte.byte-index c.args.digits.now (omega arith) c.loop-byte-test.true c.loop-byte.invariant.value (omega (arith, c.in_err-checked_mul.ensures)))

pub returns-in_err-value : goal.returns-in_err-value
returns-in_err-value c =
    let e = ap (λ b. c.loop-byte.value * b) c.from-in-loop-byte.ensures in
    let f = ap digit_value c.from.ensures in
    c.from_residual-in_err-value.ensures ∙ sym (grows_too_large c.args.base c.loop-byte.value c.loop-byte.byte-index c.args.digits.now (omega arith) c.loop-byte-test.true c.loop-byte.invariant.value (omega (arith, c.in_err-value.ensures, c.in_ok-checked_mul.ensures, c.in_ok-digit.ensures.value)))

pub returns : goal.returns
returns c =
    let some : 0 < length c.args.digits.now = grind (arith, nat_tests) in
    read_to_the_end c.args.base c.loop-byte.value c.loop-byte.byte-index c.args.digits.now some c.loop-byte-test.false c.loop-byte.invariant.digits c.loop-byte.invariant.value c.loop-byte.invariant.fits
