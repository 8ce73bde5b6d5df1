use Rattle.std.proofs.Common.{◌≡◌, map, drop}
use Rattle.cg_base.specs.Refusing.{first}
use Rattle.cg_attrs.specs.Clauses.{seen_clause}
use Rattle.cg_desc_fault_report.specs.Subject.{described_in, machine_in, element_in, insns_in}
use Rattle.cg_desc_fault_count.specs.E308.{of_clauses}
use Rattle.cg_desc_machine.specs.Seen.{base}
use Rattle.cg_desc_fault_count.proofs.limits.first_in_clauses.Given as goal

-- the first of what is left is the first of the whole
abbrev pub invariant-loop-clause : goal.invariant-loop-clause
invariant-loop-clause l =
    record {
      kept : base l.scope ≡ base l.initial.scope;
      same : first (of_clauses (described_in l.of) (base l.initial.scope) (machine_in l.of) l.of.number (element_in l.of) (insns_in l.of) (map seen_clause (drop l.clause-index l.clauses))) ≡ first (of_clauses (described_in l.of) (base l.initial.scope) (machine_in l.of) l.of.number (element_in l.of) (insns_in l.of) (map seen_clause l.clauses));
    }
