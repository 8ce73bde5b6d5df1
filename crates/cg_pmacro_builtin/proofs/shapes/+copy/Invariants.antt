use Rattle.std.proofs.Common.{◌≡◌, take}
use Rattle.cg_pmacro_builtin.proofs.shapes.+copy.Given as goal

-- the forms so far
abbrev pub invariant-copies-loop-item : goal.invariant-copies-loop-item
invariant-copies-loop-item l = l.copies ≡ take l.item-index l.item-items
