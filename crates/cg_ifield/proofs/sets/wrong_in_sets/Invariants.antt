use Rattle.std.proofs.Common.{◌≡◌, drop}
use Rattle.std.specs.List.{flat_map}
use Rattle.cg_base.specs.Refusing.{first}
use Rattle.cg_rtl.specs.Shapes.{wrong_in}
use Rattle.cg_ifield.specs.Sets.{set_of, inside_one}
use Rattle.cg_ifield.proofs.sets.wrong_in_sets.Given as goal

-- what is left has the first text of the whole
abbrev pub invariant-loop-set : goal.invariant-loop-set
invariant-loop-set l = first (flat_map (λ f. inside_one wrong_in (set_of f)) (drop l.set-index l.sets)) ≡ first (flat_map (λ f. inside_one wrong_in (set_of f)) l.sets)
