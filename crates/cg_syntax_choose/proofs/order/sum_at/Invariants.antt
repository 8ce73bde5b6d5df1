use Rattle.std.proofs.Common.{◌≡◌, drop}
use Rattle.cg_syntax_choose.specs.Ordering.{filled_sum}
use Rattle.cg_syntax_choose.proofs.order.sum_at.Given as goal

-- what is left gives what the whole gives
abbrev pub invariant-loop-each : goal.invariant-loop-each
invariant-loop-each l = filled_sum l.slot (drop l.each-index l.found) ≡ filled_sum l.slot l.found
