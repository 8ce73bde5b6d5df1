use Rattle.std.proofs.Common.{◌≡◌, drop}
use Rattle.cg_syntax.proofs.bundle.first_refused.Given as goal
use Rattle.cg_syntax.specs.Telling.{first_refused}

-- what is left has the first of the whole
abbrev pub invariant-loop-part : goal.invariant-loop-part
invariant-loop-part l = first_refused l.number (drop l.part-index l.parts) ≡ first_refused l.number l.parts
