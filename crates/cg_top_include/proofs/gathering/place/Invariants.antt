use Rattle.std.proofs.Common.{◌≡◌, ◌++◌, map}
use Rattle.cg_top_include.specs.Gathering.{placed}
use Rattle.cg_top_include.proofs.gathering.place.Given as goal

abbrev pub invariant-loop-top : goal.invariant-loop-top
invariant-loop-top l = l.tops ++ map (placed l.include) l.top-iterator.rest.items ≡ map (placed l.include) l.fn.forms.tops
