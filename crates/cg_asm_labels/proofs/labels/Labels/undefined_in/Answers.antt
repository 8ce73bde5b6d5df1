use Rattle.std.specs.Option.{option_copied, option_map}
use Rattle.std.specs.Prelude.{◌<◌, length}
use Rattle.std.proofs.Common.{sym, ap, ◌∙◌, arith}
use Rattle.cg_asm_directives.specs.Faulting.{told_first}
use Rattle.cg_asm_labels.proofs.LabelLemmas.{sum_undefined, sum_defined}
use Rattle.cg_asm_labels.proofs.labels.Labels.undefined_in.Goals as goal
use Rattle.cg_model_source.specs.E604.{undefined_sums}
use Rattle.cg_syntax.specs.Faulting.{said_alone}

pub returns-in-Some : goal.returns-in-Some
returns-in-Some c =
    let ss = c.args.sums.now in
    let within : c.loop-k.k < length ss = omega (arith, c.len-k-end.ensures) in
    let found = sym (ap (λ o. option_map (said_alone 604) (option_copied o)) c.in-Some.is) ∙ c.undefined_of.ensures in
    sum_undefined c.args.self.now ss c.loop-k.k c.sum_there.result.now (said_alone 604 c.in-Some.label.now) (told_first (undefined_sums c.args.self.now ss)) within c.sum_there.ensures found c.loop-k.invariant

pub loop-k-preserved : goal.loop-k-preserved
loop-k-preserved c =
    let ss = c.args.sums.now in
    let within : c.loop-k.k < length ss = omega (arith, c.len-k-end.ensures) in
    let none = sym (ap (λ o. option_map (said_alone 604) (option_copied o)) c.in_default.is) ∙ c.undefined_of.ensures in
    sum_defined c.args.self.now ss c.loop-k.k c.sum_there.result.now (told_first (undefined_sums c.args.self.now ss)) within c.sum_there.ensures none c.loop-k.invariant
