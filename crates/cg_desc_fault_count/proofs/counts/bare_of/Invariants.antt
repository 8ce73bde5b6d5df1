use Rattle.std.proofs.Common.{◌≡◌, ◌++◌, drop}
use Rattle.cg_desc_scope.specs.Seen.{seen_described}
use Rattle.cg_desc_fault_report.specs.Subject.{all_lent}
use Rattle.cg_desc_fault_count.specs.Counts.{bare_of}
use Rattle.cg_desc_fault_count.proofs.counts.bare_of.Given as goal

-- what stands, with what is left, is the whole
abbrev pub invariant-loop-written : goal.invariant-loop-written
invariant-loop-written l =
    l.list ++ bare_of (seen_described l.described) (all_lent (drop l.written-index l.insns)) ≡ bare_of (seen_described l.described) (all_lent l.insns)
