-- A machine has an element for each name of its description's scope, whatever the rule.
use Rattle.std.proofs.Common.{◌≡◌, Option}
use Rattle.cg_base.specs.declared.mode.Mode.{Mode}
use Rattle.cg_rtl_laws.specs.Numbered.{HasEach}
use Rattle.cg_desc_scope.specs.Described.{scope_in}
use Rattle.cg_model.specs.declared.machine.Machine.{Machine}
use Rattle.cg_rtl_resolve.specs.declared.scope.Rule.{Rule}
use Rattle.cg_rtl_resolve.specs.declared.scope.Scope.{Scope}

pub each_in : (s : Scope) (m : Machine) → HasEach s m → (r : Rule) (own : Option Mode) → HasEach (scope_in s r own) m
each_in s m h r own = record { fields = h.fields; multis = h.multis; hardware = h.hardware; operands = h.operands; texts = h.texts }
