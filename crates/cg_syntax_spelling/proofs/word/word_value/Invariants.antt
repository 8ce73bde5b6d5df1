use Rattle.std.proofs.Common.{◌≡◌, drop}
use Rattle.cg_model.specs.Words.{word_value}
use Rattle.cg_syntax_spelling.proofs.word.word_value.Given as goal

-- what is left gives what the whole gives
abbrev pub invariant-loop-each : goal.invariant-loop-each
invariant-loop-each l = word_value (drop l.each-index l.words) l.text ≡ word_value l.words l.text
