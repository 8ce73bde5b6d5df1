use Rattle.std.proofs.Common.{◌≡◌, ◌+◌, ◌*◌, ◌++◌, drop, map}
use Rattle.cg_desc_choices.specs.Putting.{put_arm, put_choice, put_to}
use Rattle.cg_desc_choices.specs.Walking.{within}
use Rattle.cg_desc_choices.proofs.putting.+putting.Given as goal

abbrev pub decreases-expression : goal.decreases-expression
decreases-expression l = 10 * l.walk.now.depth + 0

abbrev pub decreases-list : goal.decreases-list
decreases-list l = 10 * l.walk.now.depth + 9

abbrev pub decreases-call : goal.decreases-call
decreases-call l = 10 * l.walk.now.depth + 8

abbrev pub decreases-set : goal.decreases-set
decreases-set l = 10 * l.walk.now.depth + 7

abbrev pub decreases-plain : goal.decreases-plain
decreases-plain l = 10 * l.walk.now.depth + 6

abbrev pub decreases-items : goal.decreases-items
decreases-items l = 10 * l.walk.now.depth + 5

abbrev pub decreases-sequence : goal.decreases-sequence
decreases-sequence l = 10 * l.walk.now.depth + 4

abbrev pub decreases-arms : goal.decreases-arms
decreases-arms l = 10 * l.walk.now.depth + 4

abbrev pub decreases-choices : goal.decreases-choices
decreases-choices l = 10 * l.walk.now.depth + 4

abbrev pub decreases-arm : goal.decreases-arm
decreases-arm l = 10 * l.walk.now.depth + 3

abbrev pub decreases-choice : goal.decreases-choice
decreases-choice l = 10 * l.walk.now.depth + 3

abbrev pub decreases-behind : goal.decreases-behind
decreases-behind l = 10 * l.walk.now.depth + 2

abbrev pub decreases-each : goal.decreases-each
decreases-each l = 10 * l.walk.now.depth + 1

-- what stands and what is left are what all will be
abbrev pub invariant-each-loop-form : goal.invariant-each-loop-form
invariant-each-loop-form l = l.list ++ map (within l.walk) (drop l.form-index l.forms) ≡ l.fn.front ++ map (within l.walk) l.forms

abbrev pub invariant-arms-loop-form : goal.invariant-arms-loop-form
invariant-arms-loop-form l = l.list ++ map (put_arm (put_to l.walk.depth) l.walk.stands.now) (drop l.form-index l.forms) ≡ l.fn.front ++ map (put_arm (put_to l.walk.depth) l.walk.stands.now) l.forms

abbrev pub invariant-choices-loop-form : goal.invariant-choices-loop-form
invariant-choices-loop-form l = l.list ++ map (put_choice (put_to l.walk.depth) l.walk.stands.now) (drop l.form-index l.forms) ≡ l.fn.front ++ map (put_choice (put_to l.walk.depth) l.walk.stands.now) l.forms
