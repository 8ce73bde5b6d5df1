use Rattle.std.proofs.Common.{◌≡◌, length}
use Rattle.cg_insn.specs.Syntax.{has_bars}
use Rattle.cg_insn.proofs.syntax.has_bars.Given as goal

-- what is left has bars where the whole has
abbrev pub invariant-loop-first : goal.invariant-loop-first
invariant-loop-first l = has_bars l.rest ≡ has_bars l.text

abbrev pub decreases-loop-first : goal.decreases-loop-first
decreases-loop-first l = length l.rest
