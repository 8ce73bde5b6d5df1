use Rattle.std.proofs.Common.{◌≡◌, [], drop}
use Rattle.cg_pmacro_builtin.specs.Outcome.{each_joined}
use Rattle.cg_pmacro.specs.Tops.{top_forms, state}
use Rattle.cg_pmacro_builtin.proofs.Fronts.{in_front}
use Rattle.cg_pmacro.proofs.tops.expand.Given as goal

-- those so far in front of what the rest gives
abbrev pub invariant-loop-top : goal.invariant-loop-top
invariant-loop-top l = in_front l.tops (each_joined top_forms (drop l.top-index l.top-items) (state l.macros l.left)) ≡ each_joined top_forms l.forms.tops (state [] 4000000)
