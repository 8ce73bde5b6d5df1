use Rattle.std.proofs.Common.{◌≡◌, ◌++◌, drop}
use Rattle.cg_desc_machine.specs.Seen.{seen_sets}
use Rattle.cg_desc_fault_rtl.specs.Expressions.{sets_from}
use Rattle.cg_desc_fault_rtl.proofs.clauses.put_sets.Given as goal

-- what stands, with what is left, is the whole
abbrev pub invariant-loop-place : goal.invariant-loop-place
invariant-loop-place l =
    l.list ++ sets_from l.machine l.own l.scope l.subs l.place (seen_sets (drop l.place l.sets)) ≡ l.initial.list ++ sets_from l.machine l.own l.scope l.subs 0 (seen_sets l.sets)
