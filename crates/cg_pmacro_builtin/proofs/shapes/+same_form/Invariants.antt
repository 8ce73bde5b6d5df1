use Rattle.std.proofs.Common.{◌≡◌, drop}
use Rattle.std.specs.Cmp.Lexicographic.{pointwise}
use Rattle.cg_pmacro_builtin.specs.Shapes.{same_form}
use Rattle.cg_pmacro_builtin.proofs.shapes.+same_form.Given as goal

-- the rest gives what the whole gives
abbrev pub invariant-loop-k : goal.invariant-loop-k
invariant-loop-k l = pointwise same_form (drop l.k l.items) (drop l.k l.others) ≡ pointwise same_form l.items l.others
