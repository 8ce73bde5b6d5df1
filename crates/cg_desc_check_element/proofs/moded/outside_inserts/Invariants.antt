use Rattle.std.proofs.Common.{◌≡◌, drop}
use Rattle.cg_base.specs.Refusing.{first}
use Rattle.cg_model_faults.specs.Elements.{inserts_judged}
use Rattle.cg_model_faults.specs.Judging.{all_outside}
use Rattle.cg_desc_check_element.proofs.moded.outside_inserts.Given as goal

-- what is left has the first fault of the whole
abbrev pub invariant-loop-place : goal.invariant-loop-place
invariant-loop-place l = first (all_outside (inserts_judged l.machine l.own (drop l.place l.subs) (drop l.place l.inserts))) ≡ first (all_outside (inserts_judged l.machine l.own l.subs l.inserts))
