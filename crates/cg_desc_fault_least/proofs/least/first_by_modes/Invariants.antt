use Rattle.std.proofs.Common.{◌≡◌, ◌+◌, drop}
use Rattle.cg_desc_scope.specs.Seen.{seen_described}
use Rattle.cg_desc_fault_least.specs.Least.{by_modes_from, by_modes}
use Rattle.cg_desc_machine.specs.Seen.{base}
use Rattle.cg_desc_fault_least.proofs.least.first_by_modes.Given as goal

-- the first of what is left is the first of the whole
abbrev pub invariant-loop-place : goal.invariant-loop-place
invariant-loop-place l =
    record {
      kept : base l.scope ≡ base l.initial.scope;
      same : by_modes_from (seen_described l.described) (base l.initial.scope) l.machine (l.place + 1) (drop l.place l.elements) l.rest ≡ by_modes (seen_described l.described) (base l.initial.scope) l.machine l.tops;
    }
