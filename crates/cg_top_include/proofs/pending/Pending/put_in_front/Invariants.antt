use Rattle.std.proofs.Common.{◌≡◌, ◌++◌, reverse}
use Rattle.cg_top_include.proofs.pending.Pending.put_in_front.Given as goal

-- those that are left, in front of those on the stack, are all in front of those that were pending
abbrev pub invariant-loop-top : goal.invariant-loop-top
invariant-loop-top l = l.top-iterator.iter.rest.items ++ reverse l.self-inside.stack.items ≡ l.fn.tops ++ l.fn.self
