use Rattle.std.proofs.Common.{◌≡◌, ◌+◌, ◌*◌, ◌++◌, drop}
use Rattle.cg_rtl_uses.specs.Uses.{each_at, arm_uses_of, choice_uses_of}
use Rattle.cg_rtl_uses.specs.Seen.{names_in, places_in, within, under}
use Rattle.cg_rtl_uses.proofs.walk.+walking.Given as goal

abbrev pub decreases-expression : goal.decreases-expression
decreases-expression l = 10 * l.walk.now.depth + 0

abbrev pub decreases-call : goal.decreases-call
decreases-call l = 10 * l.walk.now.depth + 9

abbrev pub decreases-called : goal.decreases-called
decreases-called l = 10 * l.walk.now.depth + 8

abbrev pub decreases-join : goal.decreases-join
decreases-join l = 10 * l.walk.now.depth + 7

abbrev pub decreases-case : goal.decreases-case
decreases-case l = 10 * l.walk.now.depth + 7

abbrev pub decreases-sequence : goal.decreases-sequence
decreases-sequence l = 10 * l.walk.now.depth + 7

abbrev pub decreases-register : goal.decreases-register
decreases-register l = 10 * l.walk.now.depth + 7

abbrev pub decreases-arms : goal.decreases-arms
decreases-arms l = 10 * l.walk.now.depth + 6

abbrev pub decreases-choices : goal.decreases-choices
decreases-choices l = 10 * l.walk.now.depth + 6

abbrev pub decreases-arm : goal.decreases-arm
decreases-arm l = 10 * l.walk.now.depth + 5

abbrev pub decreases-choice : goal.decreases-choice
decreases-choice l = 10 * l.walk.now.depth + 5

abbrev pub decreases-chosen : goal.decreases-chosen
decreases-chosen l = 10 * l.walk.now.depth + 4

abbrev pub decreases-plain : goal.decreases-plain
decreases-plain l = 10 * l.walk.now.depth + 3

abbrev pub decreases-each : goal.decreases-each
decreases-each l = 10 * l.walk.now.depth + 2

abbrev pub decreases-at : goal.decreases-at
decreases-at l = 10 * l.walk.now.depth + 1

-- what stands and what is left are what all will be
abbrev pub invariant-each-loop-form : goal.invariant-each-loop-form
invariant-each-loop-form l =
    l.list ++ under (places_in l.walk) (each_at (within l.walk (names_in l.walk)) l.place (drop l.form-index l.forms)) ≡ l.initial.list ++ under (places_in l.walk) (each_at (within l.walk (names_in l.walk)) l.first l.forms)

abbrev pub invariant-arms-loop-form : goal.invariant-arms-loop-form
invariant-arms-loop-form l =
    l.list ++ under (places_in l.walk) (each_at (arm_uses_of (within l.walk) (names_in l.walk)) l.place (drop l.form-index l.forms)) ≡ l.initial.list ++ under (places_in l.walk) (each_at (arm_uses_of (within l.walk) (names_in l.walk)) l.first l.forms)

abbrev pub invariant-choices-loop-form : goal.invariant-choices-loop-form
invariant-choices-loop-form l =
    l.list ++ under (places_in l.walk) (each_at (choice_uses_of l.walk.scope.now (within l.walk) (names_in l.walk)) l.place (drop l.form-index l.forms)) ≡ l.initial.list ++ under (places_in l.walk) (each_at (choice_uses_of l.walk.scope.now (within l.walk) (names_in l.walk)) l.first l.forms)
