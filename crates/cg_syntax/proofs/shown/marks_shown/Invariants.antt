use Rattle.std.proofs.Common.{drop}
use Rattle.cg_syntax.proofs.ShowingLemmas.{MarksLeft}
use Rattle.cg_syntax.proofs.shown.marks_shown.Given as goal
use Rattle.cg_syntax.specs.Showing.{marks_shown}

-- with what is left it is the whole
abbrev pub invariant-loop-mark : goal.invariant-loop-mark
invariant-loop-mark l = MarksLeft l.machine l.operands l.values l.text (drop l.mark-index l.marks) (marks_shown l.machine l.operands l.values l.marks)
