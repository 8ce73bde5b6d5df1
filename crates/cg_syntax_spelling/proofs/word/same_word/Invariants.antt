use Rattle.std.proofs.Common.{◌≡◌, drop}
use Rattle.cg_model.specs.Words.{same_word}
use Rattle.cg_syntax_spelling.proofs.word.same_word.Given as goal

-- what is left is the same where the whole is
abbrev pub invariant-loop-i : goal.invariant-loop-i
invariant-loop-i l = same_word (drop l.i l.one) (drop l.i l.other) ≡ same_word l.one l.other
