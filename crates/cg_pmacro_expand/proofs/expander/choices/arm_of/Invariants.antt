use Rattle.std.proofs.Common.{◌≡◌, drop}
use Rattle.cg_pmacro_expand.specs.Expansion.{arm_of}
use Rattle.cg_pmacro_expand.proofs.expander.choices.arm_of.Given as goal

-- the rest gives what the whole gives
abbrev pub invariant-loop-arm : goal.invariant-loop-arm
invariant-loop-arm l = arm_of l.value (drop l.arm-index l.arms) ≡ arm_of l.value l.arms
