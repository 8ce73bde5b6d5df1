use Rattle.std.specs.Option.{option_map}
use Rattle.std.proofs.Common.{◌≡◌, subst}
use Rattle.cg_syntax_choose.specs.Trying.{outcome, trying}
use Rattle.cg_syntax_fit.specs.Misfits.{said}
use Rattle.cg_model_source.specs.Choosing.{insns_splitting}
use Rattle.cg_syntax_choose.proofs.TryingLemmas.{insns_chosen, macros_tried}
use Rattle.cg_syntax_choose.proofs.trying.try_all.Goals as goal

pub returns-in-Some : goal.returns-in-Some
returns-in-Some c =
    let m = c.args.machine.now in
    let words = c.args.index.now.keywords in
    let text = c.args.text.now in
    let now = c.try_insns.new.first in
    let came = subst (λ r. outcome m r now ≡ trying m c.args.pc (option_map (said m) c.args.first.now) (insns_splitting m words text 0 m.insns)) c.in-Some.is c.in_ok-choice.ensures in
    insns_chosen m c.args.pc words text c.args.first.now now c.in-Some.choice came

pub returns : goal.returns
returns c =
    let m = c.args.machine.now in
    let words = c.args.index.now.keywords in
    let text = c.args.text.now in
    let between = c.try_insns.new.first in
    let came = subst (λ r. outcome m r between ≡ trying m c.args.pc (option_map (said m) c.args.first.now) (insns_splitting m words text 0 m.insns)) c.in_default.is c.in_ok-choice.ensures in
    macros_tried m c.args.pc words text c.args.first.now between c.try_macros.new.first c.in_ok-try_macros.field-0 came c.in_ok-try_macros.ensures
