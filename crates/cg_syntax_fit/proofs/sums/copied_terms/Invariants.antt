use Rattle.std.proofs.Common.{◌≡◌, ◌++◌, drop}
use Rattle.cg_syntax_fit.proofs.sums.copied_terms.Given as goal

-- with what is left they are all
abbrev pub invariant-loop-term : goal.invariant-loop-term
invariant-loop-term l = l.copies ++ drop l.term-index l.terms ≡ l.terms
