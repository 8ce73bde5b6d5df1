use Rattle.std.proofs.Common.{◌≡◌, drop}
use Rattle.cg_model.specs.Formed.{has_bars}
use Rattle.cg_desc_check_values.proofs.elements.has_bars.Given as goal

abbrev pub invariant-loop-k : goal.invariant-loop-k
invariant-loop-k l = has_bars (drop l.k l.bytes) ≡ has_bars l.bytes
