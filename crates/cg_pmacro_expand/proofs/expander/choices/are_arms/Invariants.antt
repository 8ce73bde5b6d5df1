use Rattle.std.proofs.Common.{◌≡◌, drop}
use Rattle.cg_pmacro_expand.specs.Expansion.{are_arms}
use Rattle.cg_pmacro_expand.proofs.expander.choices.are_arms.Given as goal

-- the rest gives what the whole gives
abbrev pub invariant-loop-k : goal.invariant-loop-k
invariant-loop-k l = are_arms (drop l.k l.arms) ≡ are_arms l.arms
