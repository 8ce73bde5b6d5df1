use Rattle.std.proofs.Common.{drop}
use Rattle.cg_code_mask.proofs.Formats.{StillNamed}
use Rattle.cg_code_mask.proofs.format.+named.Given as goal

abbrev pub invariant-loop-item : goal.invariant-loop-item
invariant-loop-item l = StillNamed l.machine l.rtl (drop l.item-index l.item-items) l.bits
