use Rattle.std.proofs.Common.{◌≡◌, ◌++◌, drop}
use Rattle.cg_syntax_choose.specs.Ordering.{filled_sums}
use Rattle.cg_syntax_choose.proofs.order.sums_of.Given as goal

-- with those of the slots that are left they are all
abbrev pub invariant-loop-slot : goal.invariant-loop-slot
invariant-loop-slot l = l.sums ++ filled_sums l.slot (drop l.slot l.operands) l.found ≡ filled_sums 0 l.operands l.found
