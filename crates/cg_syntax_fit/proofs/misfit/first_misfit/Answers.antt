use Rattle.std.specs.Prelude.{◌≡◌, ◌+◌, drop, None}
use Rattle.std.specs.Option.{option_or}
use Rattle.std.proofs.Common.{get_or, sym, ap, ◌∙◌}
use Rattle.cg_syntax_fit.specs.Misfits.{misfit_at, first_misfit}
use Rattle.cg_syntax_fit.proofs.Misfits.{misfit_step}
use Rattle.cg_syntax_fit.proofs.misfit.first_misfit.Goals as goal

pub loop-k-preserved : goal.loop-k-preserved
loop-k-preserved c =
    let m = c.args.machine.now in
    let ks = c.args.operands.now in
    let ns = c.args.numbers.now in
    let bs = c.args.backs.now in
    let k = c.loop-k.k in
    let none : misfit_at m (get_or ks k 0) (get_or ns k None) (get_or bs k 0) ≡ None = sym c.misfit_at.ensures ∙ c.in_default.is in
    sym (misfit_step m ks ns bs k None c.requires.as_many c.requires.backs c.loop-k-test.true ∙ ap (λ x. option_or x (first_misfit m (drop (k + 1) ks) (drop (k + 1) ns) (drop (k + 1) bs))) none) ∙ c.loop-k.invariant
