use Rattle.std.proofs.Common.{drop}
use Rattle.cg_syntax_split.proofs.Passing.{Leaves, split_filled}
use Rattle.cg_syntax_split.proofs.splitting.split.Given as goal

-- what is found, with what is left, is what is found of the whole
abbrev pub invariant-loop-mark : goal.invariant-loop-mark
invariant-loop-mark l = Leaves l.machine l.keywords l.operands l.found (drop l.mark-index l.marks) l.rest (split_filled l.machine l.keywords l.operands l.marks l.text)
