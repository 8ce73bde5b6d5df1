use Rattle.std.proofs.Common.{◌≡◌, map, drop}
use Rattle.cg_syntax_spelling.specs.Lowered.{put_words}
use Rattle.cg_syntax_spelling.proofs.keyword.put_words.Given as goal

-- with what is left they are those of the whole
abbrev pub invariant-loop-each : goal.invariant-loop-each
invariant-loop-each l = put_words l.words.keys (map (λ w. w.word) (drop l.each-index l.listed)) ≡ put_words l.initial.words.keys (map (λ w. w.word) l.listed)
