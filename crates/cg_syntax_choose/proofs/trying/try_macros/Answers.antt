use Rattle.std.specs.Option.{option_map}
use Rattle.std.specs.Prelude.{◌<◌, length}
use Rattle.std.proofs.Common.{◌≡◌, subst, arith}
use Rattle.cg_syntax_choose.specs.Trying.{outcome, trying, emitted_at}
use Rattle.cg_syntax_fit.specs.Misfits.{said}
use Rattle.cg_model_source.specs.Choosing.{macros_splitting}
use Rattle.cg_syntax_choose.proofs.TryingLemmas.{macro_chosen, macro_passed}
use Rattle.cg_syntax_choose.proofs.trying.try_macros.Goals as goal

pub returns-in-Some : goal.returns-in-Some
returns-in-Some c =
    let m = c.args.at.now.machine.now in
    let words = c.args.at.now.index.now.keywords in
    let text = c.args.at.now.text.now in
    let now = c.try_macro.new.first in
    let within : c.loop-k.k < length m.macros = omega (arith, c.len-k-end.ensures) in
    let whole = trying m c.args.at.now.pc (option_map (said m) c.args.first.now) (macros_splitting m words text m.macros) in
    let came = subst (λ r. outcome m r now ≡ trying m c.args.at.now.pc (option_map (said m) c.loop-k.first) (emitted_at m words text c.loop-k.k)) c.in-Some.is c.in_ok-choice.ensures in
    macro_chosen m c.args.at.now.pc words text c.loop-k.k c.loop-k.first now c.in-Some.choice whole within came c.loop-k.invariant

pub loop-k-preserved : goal.loop-k-preserved
loop-k-preserved c =
    let m = c.args.at.now.machine.now in
    let words = c.args.at.now.index.now.keywords in
    let text = c.args.at.now.text.now in
    let now = c.try_macro.new.first in
    let within : c.loop-k.k < length m.macros = omega (arith, c.len-k-end.ensures) in
    let whole = trying m c.args.at.now.pc (option_map (said m) c.args.first.now) (macros_splitting m words text m.macros) in
    let came = subst (λ r. outcome m r now ≡ trying m c.args.at.now.pc (option_map (said m) c.loop-k.first) (emitted_at m words text c.loop-k.k)) c.in_default.is c.in_ok-choice.ensures in
    macro_passed m c.args.at.now.pc words text c.loop-k.k c.loop-k.first now whole within came c.loop-k.invariant
