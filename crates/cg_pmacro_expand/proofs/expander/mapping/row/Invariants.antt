use Rattle.std.proofs.Common.{◌≡◌, ◌++◌, drop}
use Rattle.cg_pmacro_expand.specs.Expansion.{row}
use Rattle.cg_pmacro_expand.proofs.expander.mapping.row.Given as goal

-- the elements so far, with those of the rest
abbrev pub invariant-loop-arg : goal.invariant-loop-arg
invariant-loop-arg l = l.values ++ row l.k (drop l.arg-index l.args) ≡ row l.k l.args
