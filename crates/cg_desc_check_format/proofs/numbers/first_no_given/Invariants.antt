use Rattle.std.proofs.Common.{◌≡◌, drop}
use Rattle.cg_base.specs.Refusing.{first}
use Rattle.cg_model_faults.specs.E306.{no_givens}
use Rattle.cg_desc_check_format.proofs.numbers.first_no_given.Given as goal

-- what is left has the first fault of the whole
abbrev pub invariant-loop-place : goal.invariant-loop-place
invariant-loop-place l = first (no_givens l.slots l.place (drop l.place l.given)) ≡ first (no_givens l.slots 0 l.given)
