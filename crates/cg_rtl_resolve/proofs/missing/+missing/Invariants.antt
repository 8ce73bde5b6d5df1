use Rattle.std.proofs.Common.{◌≡◌, ◌+◌, ◌*◌, drop}
use Rattle.std.specs.List.{flat_map}
use Rattle.cg_base.specs.Refusing.{first}
use Rattle.cg_rtl_resolve.specs.Names.{names_lacking, arm_lacks_at, choice_lacks_at}
use Rattle.cg_rtl_resolve.specs.Read.{lacks_in, names_in}
use Rattle.cg_rtl_resolve.proofs.missing.+missing.Given as goal

abbrev pub decreases-expression : goal.decreases-expression
decreases-expression l = 10 * l.walk.now.depth + 0

abbrev pub decreases-list : goal.decreases-list
decreases-list l = 10 * l.walk.now.depth + 9

abbrev pub decreases-call : goal.decreases-call
decreases-call l = 10 * l.walk.now.depth + 8

abbrev pub decreases-called : goal.decreases-called
decreases-called l = 10 * l.walk.now.depth + 7

abbrev pub decreases-case : goal.decreases-case
decreases-case l = 10 * l.walk.now.depth + 6

abbrev pub decreases-sequence : goal.decreases-sequence
decreases-sequence l = 10 * l.walk.now.depth + 6

abbrev pub decreases-register : goal.decreases-register
decreases-register l = 10 * l.walk.now.depth + 6

abbrev pub decreases-arms : goal.decreases-arms
decreases-arms l = 10 * l.walk.now.depth + 5

abbrev pub decreases-choices : goal.decreases-choices
decreases-choices l = 10 * l.walk.now.depth + 5

abbrev pub decreases-arm : goal.decreases-arm
decreases-arm l = 10 * l.walk.now.depth + 4

abbrev pub decreases-choice : goal.decreases-choice
decreases-choice l = 10 * l.walk.now.depth + 4

abbrev pub decreases-each : goal.decreases-each
decreases-each l = 10 * l.walk.now.depth + 2

-- what is left has the first name of the whole
abbrev pub invariant-each-loop-form : goal.invariant-each-loop-form
invariant-each-loop-form l = first (names_lacking l.wanted (flat_map (lacks_in l.walk (names_in l.walk)) (drop l.form-index l.forms))) ≡ first (names_lacking l.wanted (flat_map (lacks_in l.walk (names_in l.walk)) l.forms))

-- what is left has the first name of the whole
abbrev pub invariant-arms-loop-form : goal.invariant-arms-loop-form
invariant-arms-loop-form l = first (names_lacking l.wanted (flat_map (arm_lacks_at (lacks_in l.walk) (names_in l.walk)) (drop l.form-index l.forms))) ≡ first (names_lacking l.wanted (flat_map (arm_lacks_at (lacks_in l.walk) (names_in l.walk)) l.forms))

-- what is left has the first name of the whole
abbrev pub invariant-choices-loop-form : goal.invariant-choices-loop-form
invariant-choices-loop-form l = first (names_lacking l.wanted (flat_map (choice_lacks_at l.walk.scope.now (lacks_in l.walk) (names_in l.walk)) (drop l.form-index l.forms))) ≡ first (names_lacking l.wanted (flat_map (choice_lacks_at l.walk.scope.now (lacks_in l.walk) (names_in l.walk)) l.forms))
