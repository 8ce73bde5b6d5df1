use Rattle.std.proofs.Common.{rules}
use Rattle.std.specs.Prelude.{FitsSigned}
use Rattle.std.specs.Int.{w64}
use Rattle.cg_base.proofs.Words.{divided}
use Rattle.cg_base.proofs.arithmetic.quotient.Goals as goal

pub returns : goal.returns
returns c =
    let f : FitsSigned w64 c.as_signed.result = search rules in
    let g : FitsSigned w64 c.as_signed-2.result = search rules in
    let h : FitsSigned w64 c.wrapping_div.result = search rules in
    let e = divided c.args.bits c.wrapped.result c.as_signed.result c.as_signed-2.result c.wrapping_div.result c.requires.few f g h c.wrapping_div.ensures c.wrapped.ensures in
    cc
