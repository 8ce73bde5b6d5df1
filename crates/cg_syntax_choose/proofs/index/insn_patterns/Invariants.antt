use Rattle.std.proofs.Common.{◌≡◌, ◌++◌, drop}
use Rattle.cg_syntax_choose.specs.Indexing.{insn_patterns}
use Rattle.cg_syntax_choose.proofs.index.insn_patterns.Given as goal

-- with those of what is left they are those of the whole
abbrev pub invariant-loop-insn : goal.invariant-loop-insn
invariant-loop-insn l = l.patterns ++ insn_patterns (drop l.insn-index l.insns) ≡ insn_patterns l.insns
