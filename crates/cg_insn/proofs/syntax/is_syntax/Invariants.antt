use Rattle.std.proofs.Common.{◌≡◌, length}
use Rattle.cg_insn.specs.Syntax.{is_syntax}
use Rattle.cg_insn.proofs.syntax.is_syntax.Given as goal

-- what is left is a syntax where the whole is
abbrev pub invariant-loop-after : goal.invariant-loop-after
invariant-loop-after l = is_syntax l.rest ≡ is_syntax l.text

abbrev pub decreases-loop-after : goal.decreases-loop-after
decreases-loop-after l = length l.rest
