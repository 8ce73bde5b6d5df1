use Rattle.std.proofs.Common.{◌≡◌, drop}
use Rattle.cg_base.specs.Refusing.{first}
use Rattle.cg_model_faults.specs.Elements.{of_all, numbers_of}
use Rattle.cg_desc_check_element.proofs.expressions.numbers_of_all.Given as goal

-- what is left has the first fault of the whole
abbrev pub invariant-loop-rtl : goal.invariant-loop-rtl
invariant-loop-rtl l = first (of_all (numbers_of l.machine) (drop l.rtl-index l.rtls)) ≡ first (of_all (numbers_of l.machine) l.rtls)
