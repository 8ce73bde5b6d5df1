use Rattle.std.proofs.Common.{◌≡◌, take}
use Rattle.cg_model.proofs.rtl.RtlClone.+clone.Given as goal

-- the copies are those of the items so far
abbrev pub invariant-loop-item : goal.invariant-loop-item
invariant-loop-item l = l.copies.items ≡ take l.item-index l.item-items
