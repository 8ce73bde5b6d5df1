use Rattle.std.proofs.Common.{◌≡◌, ◌++◌, drop}
use Rattle.std.specs.List.{filter}
use Rattle.cg_tree.specs.Candidates.{agrees, constant_at}
use Rattle.cg_tree.proofs.growing.agreeing.Given as goal

-- those so far, with those of what is left, are those of all
abbrev pub invariant-loop-k : goal.invariant-loop-k
invariant-loop-k l = l.list ++ filter (λ k. agrees (constant_at l.table k l.bit) l.answer) (drop l.k-index l.candidates) ≡ filter (λ k. agrees (constant_at l.table k l.bit) l.answer) l.candidates
