use Rattle.std.specs.Option.{option_copied}
use Rattle.std.specs.Prelude.{◌<◌, length}
use Rattle.std.proofs.Common.{sym, ap, ◌∙◌, arith}
use Rattle.cg_syntax.proofs.BundleLemmas.{term_found, term_passed}
use Rattle.cg_syntax.proofs.bundle.first_term.Goals as goal
use Rattle.cg_syntax.specs.Telling.{first_term}

pub returns-in-Some : goal.returns-in-Some
returns-in-Some c =
    let ss = c.args.sums.now in
    let within : c.loop-k.k < length ss = omega (arith, c.len-k-end.ensures) in
    term_found ss c.loop-k.k c.sum_there.result.now c.in-Some.label.now (first_term ss) within c.sum_there.ensures (sym (ap option_copied c.in-Some.is) ∙ c.label_of.ensures) c.loop-k.invariant

pub loop-k-preserved : goal.loop-k-preserved
loop-k-preserved c =
    let ss = c.args.sums.now in
    let within : c.loop-k.k < length ss = omega (arith, c.len-k-end.ensures) in
    term_passed ss c.loop-k.k c.sum_there.result.now (first_term ss) within c.sum_there.ensures (sym (ap option_copied c.in_default.is) ∙ c.label_of.ensures) c.loop-k.invariant
