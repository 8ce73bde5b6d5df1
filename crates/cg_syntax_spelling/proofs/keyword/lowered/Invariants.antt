use Rattle.std.proofs.Common.{◌≡◌, ◌++◌, map, drop}
use Rattle.cg_model.specs.Words.{lower}
use Rattle.cg_syntax_spelling.proofs.keyword.lowered.Given as goal

-- with what is left it is the whole
abbrev pub invariant-loop-byte : goal.invariant-loop-byte
invariant-loop-byte l = l.lowered ++ map lower (drop l.byte-index l.text) ≡ map lower l.text
