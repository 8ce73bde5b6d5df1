use Rattle.cg_syntax_lines.proofs.Blanks.{Uncommented}
use Rattle.cg_syntax_lines.proofs.blank.uncommented.Given as goal

-- with what is left it is the whole
abbrev pub invariant-loop-i : goal.invariant-loop-i
invariant-loop-i l = Uncommented l.text l.i l.in_string
