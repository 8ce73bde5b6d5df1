use Rattle.std.proofs.Common.{◌≡◌, ◌+◌, drop}
use Rattle.cg_desc_scope.specs.Seen.{seen_described}
use Rattle.cg_desc_fault_count.specs.Counts.{seen_before}
use Rattle.cg_desc_fault_least.specs.Least.{by_data_from, by_data}
use Rattle.cg_desc_machine.specs.Seen.{base}
use Rattle.cg_desc_fault_least.proofs.least.first_by_data.Given as goal

-- the first of what is left is the first of the whole
abbrev pub invariant-loop-place : goal.invariant-loop-place
invariant-loop-place l =
    record {
      kept : base l.scope ≡ base l.initial.scope;
      same : by_data_from (seen_described l.described) (base l.initial.scope) l.machine (seen_before l.before) (l.place + 1) (drop l.place l.elements) l.rest ≡ by_data (seen_described l.described) (base l.initial.scope) l.machine l.tops;
    }
