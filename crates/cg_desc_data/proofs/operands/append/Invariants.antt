use Rattle.std.proofs.Common.{◌≡◌, ◌++◌}
use Rattle.cg_desc_data.proofs.operands.append.Given as goal

-- the items so far
abbrev pub invariant-loop-item : goal.invariant-loop-item
invariant-loop-item l =
    l.list ≡ l.initial.list ++ l.yielded
