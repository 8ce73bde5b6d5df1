use Rattle.std.proofs.Common.{rules, ◌≡◌, ◌∙◌, ap, Some}
use Rattle.cg_base.specs.Refusing.{first}
use Rattle.cg_attrs.specs.Clauses.{seen_clause}
use Rattle.cg_desc_fault_report.specs.Subject.{described_in, machine_in, element_in, insns_in}
use Rattle.cg_desc_fault_name.specs.E304.{in_clause}
use Rattle.cg_desc_fault_name.proofs.FirstOf.{first_here}
use Rattle.cg_desc_machine.specs.Seen.{base}
use Rattle.cg_desc_fault_name.proofs.kinds.first_in_clauses.Goals as goal

pub returns-in-Some-clause-value : goal.returns-in-Some-clause-value
returns-in-Some-clause-value c =
    let some : Some c.in-Some.said ≡ c.in_ok-said.field-0 = search rules in
    let kept = ap (λ s. first (in_clause (described_in c.args.of.now) s (machine_in c.args.of.now) c.args.of.now.number (insns_in c.args.of.now) (element_in c.args.of.now) (seen_clause c.clause-item.result))) c.loop-clause.invariant.kept in
    first_here (in_clause (described_in c.args.of.now) (base c.args.scope.now) (machine_in c.args.of.now) c.args.of.now.number (insns_in c.args.of.now) (element_in c.args.of.now)) seen_clause c.args.clauses.now c.loop-clause.clause-index _
    c.clause-item.result c.in-Some.said c.loop-clause-test.true c.clause-item.is (some ∙ (c.in_ok-said.ensures.value ∙ kept)) c.loop-clause.invariant.same
