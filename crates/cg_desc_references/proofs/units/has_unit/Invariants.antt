use Rattle.std.proofs.Common.{◌≡◌, drop}
use Rattle.std.specs.List.{list_any}
use Rattle.cg_base.specs.Parts.{is_headed}
use Rattle.cg_desc_references.specs.Units.{has_unit}
use Rattle.cg_desc_references.proofs.units.has_unit.Given as goal

-- what is left has the unit where the whole has
abbrev pub invariant-loop-behind : goal.invariant-loop-behind
invariant-loop-behind l = list_any (is_headed l.name) (drop l.behind-index l.behind-items) ≡ has_unit l.name l.model
