use Rattle.std.proofs.Common.{◌≡◌, ◌++◌, length}
use Rattle.cg_model_source.specs.Squeezing.{spaced, words}
use Rattle.cg_syntax_split.specs.Gaps.{words_behind}
use Rattle.cg_syntax_split.proofs.squeeze.spaced.Given as goal

-- with the words that are left they are the words of the whole
abbrev pub invariant-loop-word : goal.invariant-loop-word
invariant-loop-word g l = l.out.items ++ words_behind g.C.Character.joining g.C.Character.single l.gap (words g.C.Character.blank l.rest) ≡ spaced g.C.Character.joining g.C.Character.single (words g.C.Character.blank l.text)

abbrev pub decreases-loop-word : goal.decreases-loop-word
decreases-loop-word g l = length l.rest
