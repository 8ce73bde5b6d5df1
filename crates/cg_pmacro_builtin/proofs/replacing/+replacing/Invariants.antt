use Rattle.std.proofs.Common.{◌≡◌, ◌+◌, ◌*◌, ◌++◌, map, take, drop, if◌then◌else◌}
use Rattle.cg_pmacro_builtin.specs.Replacing.{replaced_to, side_by_side, in_order, hidden}
use Rattle.cg_pmacro_builtin.proofs.replacing.+replacing.Given as goal

abbrev pub decreases-replaced_to : goal.decreases-replaced_to
decreases-replaced_to l = 10 * l.levels + 1

abbrev pub decreases-push_replaced : goal.decreases-push_replaced
decreases-push_replaced l = 10 * l.levels + 2

abbrev pub decreases-kept_first : goal.decreases-kept_first
decreases-kept_first l = 10 * l.levels + 3

abbrev pub decreases-binding_replaced : goal.decreases-binding_replaced
decreases-binding_replaced l = 10 * l.levels + 4

abbrev pub decreases-bindings_replaced : goal.decreases-bindings_replaced
decreases-bindings_replaced l = 10 * l.levels + 5

abbrev pub decreases-push_pmacro : goal.decreases-push_pmacro
decreases-push_pmacro l = 10 * l.levels + 3

abbrev pub decreases-push_let : goal.decreases-push_let
decreases-push_let l = 10 * l.levels + 6

abbrev pub decreases-elements_replaced : goal.decreases-elements_replaced
decreases-elements_replaced l = 10 * l.levels + 7

-- those that are done, with the rest replaced
abbrev pub invariant-push_replaced-loop-item : goal.invariant-push_replaced-loop-item
invariant-push_replaced-loop-item l = l.done ≡ l.initial.done ++ map (replaced_to l.levels l.table) (take l.item-index l.items)

-- those that are done in front of the rest, and the table behind all
abbrev pub invariant-bindings_replaced-loop-binding : goal.invariant-bindings_replaced-loop-binding
invariant-bindings_replaced-loop-binding l = record {
  bindings : l.done ++ (if l.ordered then in_order (replaced_to l.levels) l.later (drop l.binding-index l.bindings) else side_by_side (replaced_to l.levels) l.table (drop l.binding-index l.bindings)) ≡ (if l.ordered then in_order (replaced_to l.levels) l.initial.later l.bindings else side_by_side (replaced_to l.levels) l.table l.bindings);
  table : hidden l.later (drop l.binding-index l.bindings) ≡ hidden l.initial.later l.bindings;
}
