use Rattle.std.proofs.Common.{◌≡◌, ◌++◌, drop}
use Rattle.cg_desc_fault_report.proofs.saying.put_copies.Given as goal

-- what stands, with what is left, is the whole
abbrev pub invariant-loop-item : goal.invariant-loop-item
invariant-loop-item g l = l.list ++ drop l.item-index l.items ≡ l.initial.list ++ l.items
