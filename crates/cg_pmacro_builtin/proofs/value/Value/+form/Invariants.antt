use Rattle.std.proofs.Common.{◌≡◌, take}
use Rattle.cg_pmacro_builtin.proofs.value.Value.+form.Given as goal

-- the forms so far
abbrev pub invariant-loop-item : goal.invariant-loop-item
invariant-loop-item l = l.forms ≡ take l.item-index l.item-items
