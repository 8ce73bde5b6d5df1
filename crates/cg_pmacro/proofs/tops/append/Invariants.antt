use Rattle.std.proofs.Common.{◌≡◌, ◌++◌}
use Rattle.cg_pmacro.proofs.tops.append.Given as goal

-- the forms so far
abbrev pub invariant-loop-part : goal.invariant-loop-part
invariant-loop-part l = l.done ≡ l.initial.done ++ l.yielded
