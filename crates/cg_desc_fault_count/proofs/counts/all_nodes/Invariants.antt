use Rattle.std.proofs.Common.{◌≡◌, ◌+◌, drop}
use Rattle.cg_desc_scope.specs.Seen.{seen_described}
use Rattle.cg_desc_fault_report.specs.Subject.{all_lent}
use Rattle.cg_desc_fault_count.specs.Counts.{all_nodes}
use Rattle.cg_desc_machine.specs.Seen.{base}
use Rattle.cg_desc_fault_count.proofs.counts.all_nodes.Given as goal

-- the nodes so far, with those of what is left, are those of all
abbrev pub invariant-loop-written : goal.invariant-loop-written
invariant-loop-written l =
    record {
      kept : base l.scope ≡ base l.initial.scope;
      same : l.count + all_nodes (seen_described l.described) (base l.initial.scope) (all_lent (drop l.written-index l.insns)) ≡ all_nodes (seen_described l.described) (base l.initial.scope) (all_lent l.insns);
    }
