use Rattle.std.proofs.Common.{◌≡◌, ◌++◌, drop}
use Rattle.cg_syntax.proofs.stating.put_parts.Given as goal
use Rattle.cg_syntax.specs.Laying.{told_bytes}

-- with those of what is left they are the bytes of the whole
abbrev pub invariant-loop-k : goal.invariant-loop-k
invariant-loop-k l = l.out.items ++ told_bytes l.machine (drop l.k l.parts) ≡ told_bytes l.machine l.parts
