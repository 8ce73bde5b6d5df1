use Rattle.std.proofs.Common.{◌≡◌, ◌++◌, drop}
use Rattle.cg_syntax_choose.specs.Indexing.{macro_patterns}
use Rattle.cg_syntax_choose.proofs.index.macro_patterns.Given as goal

-- with those of what is left they are those of the whole
abbrev pub invariant-loop-each : goal.invariant-loop-each
invariant-loop-each l = l.patterns ++ macro_patterns (drop l.each-index l.macros) ≡ macro_patterns l.macros
