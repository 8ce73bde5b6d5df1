use Rattle.std.specs.Prelude.{None}
use Rattle.std.proofs.Common.{◌≡◌, subst, ◌∙◌}
use Rattle.cg_syntax_choose.specs.Trying.{outcome, trying, splitting_squeezed}
use Rattle.cg_syntax_choose.proofs.TryingLemmas.{chosen_is, refused_is}
use Rattle.cg_syntax_choose.proofs.trying.choose.Goals as goal

pub returns-in-Some : goal.returns-in-Some
returns-in-Some c =
    let m = c.args.machine.now in
    let words = c.args.index.now.keywords in
    let first = c.try_all.new.first in
    let text = c.as_slice.result.now in
    let came = subst (λ r. outcome m r first ≡ trying m c.args.pc None (splitting_squeezed m words text)) c.in-Some.is c.in_ok-choice.ensures in
    chosen_is m c.args.index.now c.args.pc c.args.text.now text c.in-Some.choice first c.requires.index (c.as_slice.ensures ∙ c.in_ok-text.ensures) came

pub returns-in_ok-refusal_of-in-None : goal.returns-in_ok-refusal_of-in-None
returns-in_ok-refusal_of-in-None c =
    let m = c.args.machine.now in
    let words = c.args.index.now.keywords in
    let first = c.try_all.new.first in
    let seen = subst (λ r. outcome m r first ≡ trying m c.args.pc None (splitting_squeezed m words c.as_slice.result.now)) c.in-None.is c.in_ok-choice.ensures in
    let came = subst (λ t. outcome m None first ≡ trying m c.args.pc None (splitting_squeezed m words t)) c.as_slice.ensures seen in
    refused_is m c.args.index.now c.args.pc c.args.text.now c.in_ok-text.text c.in_ok-refusal_of-in-None.field-0 first c.requires.index c.in_ok-text.ensures came c.in_ok-refusal_of-in-None.ensures
