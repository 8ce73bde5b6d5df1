use Rattle.std.proofs.Common.{◌≡◌, drop}
use Rattle.cg_syntax.proofs.bundle.first_term.Given as goal
use Rattle.cg_syntax.specs.Telling.{first_term}

-- what is left has the first of the whole
abbrev pub invariant-loop-k : goal.invariant-loop-k
invariant-loop-k l = first_term (drop l.k l.sums) ≡ first_term l.sums
