use Rattle.std.proofs.Common.{◌≡◌, ◌++◌, drop}
use Rattle.cg_syntax_choose.specs.Ordering.{given_all}
use Rattle.cg_syntax_choose.proofs.order.given_sums.Given as goal

-- with those of the slots that are left they are all
abbrev pub invariant-loop-each : goal.invariant-loop-each
invariant-loop-each l = l.sums ++ given_all l.found (drop l.each-index l.given) ≡ given_all l.found l.given
