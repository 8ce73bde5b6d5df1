use Rattle.std.proofs.Common.{rules, ◌≡◌, ◌∙◌, ap, Some, None, IfOk, subst}
use Rattle.cg_desc_fault_report.specs.Saying.{least_said}
use Rattle.cg_desc_fault_report.specs.Subject.{described_in, machine_in, element_in, form_in, insns_in}
use Rattle.cg_desc_machine.specs.Seen.{base}
use Rattle.cg_desc_fault_least.specs.Least.{by_names, by_bits, by_rules}
use Rattle.cg_desc_fault_least.proofs.Leasts.{first_of, second_of, third_where}
use Rattle.cg_desc_fault_least.proofs.data.least.Goals as goal

pub returns-in-Some-clause-value : goal.returns-in-Some-clause-value
returns-in-Some-clause-value c =
    let of = c.args.of.now in
    let scope = base c.args.scope.now in
    let some : Some c.in-Some.found ≡ c.in_ok-found.field-0 = search rules in
    first_of (by_names (described_in of) scope (machine_in of) of.number (element_in of) (form_in of) (insns_in of)) (by_bits (described_in of) scope (machine_in of) c.args.before.now c.args.own.now of.number (element_in of) (form_in of) (insns_in of))
    (by_rules (described_in of) scope (machine_in of) of.number (element_in of) (form_in of) (insns_in of)) c.in-Some.found (some ∙ c.in_ok-found.ensures.value)

pub returns-in-Some-2-clause-value : goal.returns-in-Some-2-clause-value
returns-in-Some-2-clause-value c =
    let of = c.args.of.now in
    let scope = base c.args.scope.now in
    let none : None ≡ c.in_ok-found.field-0 = search rules in
    let some : Some c.in-Some-2.found ≡ c.in_ok-found-2.field-0 = search rules in
    let kept = ap (λ s. least_said (by_bits (described_in of) s (machine_in of) c.args.before.now c.args.own.now of.number (element_in of) (form_in of) (insns_in of))) c.in_ok-found.ensures.kept in
    second_of (by_names (described_in of) scope (machine_in of) of.number (element_in of) (form_in of) (insns_in of)) (by_bits (described_in of) scope (machine_in of) c.args.before.now c.args.own.now of.number (element_in of) (form_in of) (insns_in of))
    (by_rules (described_in of) scope (machine_in of) of.number (element_in of) (form_in of) (insns_in of)) c.in-Some-2.found (none ∙ c.in_ok-found.ensures.value) (some ∙ (c.in_ok-found-2.ensures.value ∙ kept))

pub returns-clause-value : goal.returns-clause-value
returns-clause-value c =
    let of = c.args.of.now in
    let scope = base c.args.scope.now in
    let none : None ≡ c.in_ok-found.field-0 = search rules in
    let also : None ≡ c.in_ok-found-2.field-0 = search rules in
    let first = c.in_ok-found.ensures.kept in
    let kept = ap (λ s. least_said (by_bits (described_in of) s (machine_in of) c.args.before.now c.args.own.now of.number (element_in of) (form_in of) (insns_in of))) first in
    let last = subst (λ s. IfOk c.least_of_rules.result (λ o. o ≡ least_said (by_rules (described_in of) s (machine_in of) of.number (element_in of) (form_in of) (insns_in of)))) (c.in_ok-found-2.ensures.kept ∙ first) c.least_of_rules.ensures.value in
    third_where c.least_of_rules.result (by_names (described_in of) scope (machine_in of) of.number (element_in of) (form_in of) (insns_in of))
    (by_bits (described_in of) scope (machine_in of) c.args.before.now c.args.own.now of.number (element_in of) (form_in of) (insns_in of)) (by_rules (described_in of) scope (machine_in of) of.number (element_in of) (form_in of) (insns_in of))
    (none ∙ c.in_ok-found.ensures.value) (also ∙ (c.in_ok-found-2.ensures.value ∙ kept)) last
