use Rattle.std.proofs.Common.{◌≡◌, ◌+◌, ◌*◌, ◌++◌, drop}
use Rattle.std.specs.List.{flat_map}
use Rattle.cg_desc_scope.specs.Texts.{texts_to}
use Rattle.cg_desc_scope.proofs.texts.+telling.Given as goal

abbrev pub decreases-put_to : goal.decreases-put_to
decreases-put_to l = 2 * l.depth + 0

abbrev pub decreases-put_each_to : goal.decreases-put_each_to
decreases-put_each_to l = 2 * l.depth + 1

-- what stands and what is left are what all will be
abbrev pub invariant-put_each_to-loop-form : goal.invariant-put_each_to-loop-form
invariant-put_each_to-loop-form l = l.list ++ flat_map (texts_to l.depth) (drop l.form-index l.forms) ≡ l.fn.list ++ flat_map (texts_to l.depth) l.forms
