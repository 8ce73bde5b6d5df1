use Rattle.std.proofs.Common.{◌≡◌, drop}
use Rattle.std.specs.List.{list_all}
use Rattle.cg_pmacro_expand.specs.Expansion.{is_pair}
use Rattle.cg_pmacro_expand.proofs.expander.choices.are_pairs.Given as goal

-- the rest gives what the whole gives
abbrev pub invariant-loop-arm : goal.invariant-loop-arm
invariant-loop-arm l = list_all is_pair (drop l.arm-index l.arms) ≡ list_all is_pair l.arms
