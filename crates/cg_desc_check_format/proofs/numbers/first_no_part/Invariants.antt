use Rattle.std.proofs.Common.{◌≡◌, drop}
use Rattle.cg_base.specs.Refusing.{first}
use Rattle.cg_model_faults.specs.E306.{no_parts}
use Rattle.cg_desc_check_format.proofs.numbers.first_no_part.Given as goal

-- what is left has the first fault of the whole
abbrev pub invariant-loop-place : goal.invariant-loop-place
invariant-loop-place l = first (no_parts l.machine l.place (drop l.place l.parts)) ≡ first (no_parts l.machine 0 l.parts)
