use Rattle.std.proofs.Common.{◌≡◌, take}
use Rattle.cg_base.proofs.form.FormClone.+clone.Given as goal

-- the copies are those of the elements so far
abbrev pub invariant-loop-item : goal.invariant-loop-item
invariant-loop-item l = l.copies ≡ take l.item-index l.item-items
