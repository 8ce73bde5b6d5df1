use Rattle.std.proofs.Common.{◌≡◌, ◌++◌, drop}
use Rattle.cg_desc_fault_count.proofs.counts.append.Given as goal

-- what stands, with what is left, is the whole
abbrev pub invariant-loop-text : goal.invariant-loop-text
invariant-loop-text l =
    l.list ++ drop l.text-index l.texts ≡ l.initial.list ++ l.texts
