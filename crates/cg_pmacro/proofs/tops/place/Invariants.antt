use Rattle.std.proofs.Common.{◌≡◌, ◌++◌, map}
use Rattle.cg_pmacro.specs.Tops.{placed}
use Rattle.cg_pmacro.proofs.tops.place.Given as goal

-- the forms so far
abbrev pub invariant-loop-form : goal.invariant-loop-form
invariant-loop-form l = l.tops ≡ l.initial.tops ++ map (placed l.top) l.yielded
