use Rattle.std.proofs.Common.{◌≡◌, ◌++◌, drop}
use Rattle.cg_model_source.specs.Choosing.{known_all}
use Rattle.cg_syntax_choose.proofs.order.known_all.Given as goal

-- with those of the sums that are left they are all
abbrev pub invariant-loop-k : goal.invariant-loop-k
invariant-loop-k l = l.numbers.items ++ known_all (drop l.k l.sums) ≡ known_all l.sums
