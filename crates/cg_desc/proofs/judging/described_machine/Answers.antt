use Rattle.std.proofs.Common.{rules, ◌≡◌, ◌∙◌, ap, Err}
use Rattle.cg_base.specs.declared.refusal.Stop.TheVariants.{NoMemory}
use Rattle.cg_desc_data.specs.Seen.{seen}
use Rattle.cg_desc_scope.specs.Described.{scope_of}
use Rattle.cg_desc_scope.specs.Seen.{seen_described, forms_of}
use Rattle.cg_desc.proofs.Answers.{unknown_selection, gives_selection}
use Rattle.cg_desc.proofs.judging.described_machine.Goals as goal

pub returns-in_err-scope-clause-answer : goal.returns-in_err-scope-clause-answer
returns-in_err-scope-clause-answer c =
    let unknown : c.from_residual.result ≡ Err NoMemory = search rules in unknown_selection (seen c.args.selection.now) c.args.tops.now c.from_residual.result unknown

pub returns-clause-answer : goal.returns-clause-answer
returns-clause-answer c =
    let s = seen c.args.selection.now in
    let scope = c.in_ok-scope.ensures ∙ ap (scope_of s (forms_of c.args.tops.now) c.args.described.now.framing) c.as_slice-written.ensures in
    gives_selection s c.args.tops.now (seen_described c.args.described.now) c.in_ok-scope.scope c.machine_by.result c.requires.described scope c.machine_by.ensures.answer
