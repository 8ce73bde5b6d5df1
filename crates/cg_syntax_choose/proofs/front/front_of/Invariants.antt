use Rattle.cg_syntax_choose.proofs.FrontLemmas.{MarkFront}
use Rattle.cg_syntax_choose.proofs.front.front_of.Given as goal

-- with what is left it is the front of the whole
abbrev pub invariant-loop-mark : goal.invariant-loop-mark
invariant-loop-mark l = MarkFront l.marks l.mark-index l.front
