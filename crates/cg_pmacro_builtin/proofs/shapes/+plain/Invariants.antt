use Rattle.std.proofs.Common.{◌≡◌, map, take}
use Rattle.cg_pmacro_builtin.specs.Shapes.{plain}
use Rattle.cg_pmacro_builtin.proofs.shapes.+plain.Given as goal

-- the forms so far
abbrev pub invariant-all_plain-loop-item : goal.invariant-all_plain-loop-item
invariant-all_plain-loop-item l = l.bodies ≡ map plain (take l.item-index l.item-items)
