use Rattle.std.proofs.Common.{◌≡◌, map, take}
use Rattle.cg_pmacro_builtin.specs.Shapes.{written}
use Rattle.cg_pmacro_builtin.proofs.shapes.+written.Given as goal

-- the forms so far
abbrev pub invariant-all_written-loop-item : goal.invariant-all_written-loop-item
invariant-all_written-loop-item l = l.values ≡ map written (take l.item-index l.item-items)
