use Rattle.std.proofs.Common.{◌≡◌, length}
use Rattle.cg_model_source.specs.Lining.{without_end}
use Rattle.cg_syntax_lines.proofs.blank.without_end.Given as goal

-- what is left ends as the whole does
abbrev pub invariant-loop-last : goal.invariant-loop-last
invariant-loop-last l = without_end l.rest ≡ without_end l.text

abbrev pub decreases-loop-last : goal.decreases-loop-last
decreases-loop-last l = length l.rest
