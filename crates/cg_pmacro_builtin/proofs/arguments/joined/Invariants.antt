use Rattle.std.proofs.Common.{◌≡◌, drop}
use Rattle.cg_pmacro_builtin.specs.BuiltIns.{joined}
use Rattle.cg_pmacro_builtin.proofs.Fronts.{answer_in_front}
use Rattle.cg_pmacro_builtin.proofs.arguments.joined.Given as goal

-- the text so far in front of that of the rest
abbrev pub invariant-loop-arg : goal.invariant-loop-arg
invariant-loop-arg l = answer_in_front l.done (joined l.of (drop l.arg-index l.args)) ≡ joined l.of l.args
