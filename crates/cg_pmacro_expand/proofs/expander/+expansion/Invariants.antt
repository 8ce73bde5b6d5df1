use Rattle.std.proofs.Common.{◌≡◌, ◌+◌, ◌-◌, ◌*◌, false, drop, filter_map, if◌then◌else◌}
use Rattle.std.specs.List.{range_with_len}
use Rattle.cg_pmacro_builtin.specs.Outcome.{each, each_joined}
use Rattle.cg_pmacro_builtin.specs.Shapes.{binding}
use Rattle.cg_pmacro_builtin.proofs.Fronts.{in_front}
use Rattle.cg_pmacro_expand.specs.Expansion.{expanded, first_arm, let_binding, let_in_order, spliced, results}
use Rattle.cg_pmacro_expand.specs.Steps.{beginning, bind}
use Rattle.cg_pmacro_expand.proofs.expander.+expansion.Given as goal

abbrev pub decreases-expand : goal.decreases-expand
decreases-expand l = 20 * l.depth + 5

abbrev pub decreases-expand_list : goal.decreases-expand_list
decreases-expand_list l = 20 * l.depth + 4

abbrev pub decreases-expand_symbol : goal.decreases-expand_symbol
decreases-expand_symbol l = 20 * l.depth + 3

abbrev pub decreases-expand_named : goal.decreases-expand_named
decreases-expand_named l = 20 * l.depth + 3

abbrev pub decreases-each : goal.decreases-each
decreases-each l = 20 * l.depth + 6

abbrev pub decreases-plain_list : goal.decreases-plain_list
decreases-plain_list l = 20 * l.depth + 7

abbrev pub decreases-macro_calls::call_macro : goal.decreases-macro_calls::call_macro
decreases-macro_calls::call_macro l = 20 * l.depth + 6

abbrev pub decreases-macro_calls::call_pmacro : goal.decreases-macro_calls::call_pmacro
decreases-macro_calls::call_pmacro l = 20 * l.depth + 9

abbrev pub decreases-lets::bind : goal.decreases-lets::bind
decreases-lets::bind l = 20 * l.depth + 6

abbrev pub decreases-choices::first_arm : goal.decreases-choices::first_arm
decreases-choices::first_arm l = 20 * l.depth + 6

abbrev pub decreases-choices::take_cond : goal.decreases-choices::take_cond
decreases-choices::take_cond l = 20 * l.depth + 7

abbrev pub decreases-choices::take_if : goal.decreases-choices::take_if
decreases-choices::take_if l = 20 * l.depth + 6

abbrev pub decreases-choices::take_case : goal.decreases-choices::take_case
decreases-choices::take_case l = 20 * l.depth + 6

abbrev pub decreases-choices::call_choice : goal.decreases-choices::call_choice
decreases-choices::call_choice l = 20 * l.depth + 8

abbrev pub decreases-lets::call_let : goal.decreases-lets::call_let
decreases-lets::call_let l = 20 * l.depth + 7

abbrev pub decreases-own_calls::splice : goal.decreases-own_calls::splice
decreases-own_calls::splice l = 20 * l.depth + 6

abbrev pub decreases-mapping::head_of : goal.decreases-mapping::head_of
decreases-mapping::head_of l = 20 * l.depth + 6

abbrev pub decreases-mapping::apply : goal.decreases-mapping::apply
decreases-mapping::apply l = 20 * l.depth + 6

abbrev pub decreases-mapping::map : goal.decreases-mapping::map
decreases-mapping::map l = 20 * l.depth + 6

abbrev pub decreases-mapping::call_over : goal.decreases-mapping::call_over
decreases-mapping::call_over l = 20 * l.depth + 8

abbrev pub decreases-own_calls::call_built_in : goal.decreases-own_calls::call_built_in
decreases-own_calls::call_built_in l = 20 * l.depth + 9

abbrev pub decreases-expand_plain : goal.decreases-expand_plain
decreases-expand_plain l = 20 * l.depth + 3

abbrev pub decreases-macro_calls::call_named : goal.decreases-macro_calls::call_named
decreases-macro_calls::call_named l = 20 * l.depth + 8

abbrev pub decreases-own_calls::call_own : goal.decreases-own_calls::call_own
decreases-own_calls::call_own l = 20 * l.depth + 10

abbrev pub decreases-own_calls::each_for : goal.decreases-own_calls::each_for
decreases-own_calls::each_for l = 20 * l.depth + 7

abbrev pub decreases-own_calls::call_iota : goal.decreases-own_calls::call_iota
decreases-own_calls::call_iota l = 20 * l.depth + 8

abbrev pub decreases-own_calls::call_ordinary : goal.decreases-own_calls::call_ordinary
decreases-own_calls::call_ordinary l = 20 * l.depth + 8

abbrev pub decreases-mapping::over : goal.decreases-mapping::over
decreases-mapping::over l = 20 * l.depth + 7

-- the rest gives what the whole gives
abbrev pub invariant-each-loop-item : goal.invariant-each-loop-item
invariant-each-loop-item l =
    in_front l.values (each (expanded l.macros l.depth l.name false) (drop l.item-index l.items) l.left) ≡ each (expanded l.macros l.depth l.name false) l.items l.initial.left

abbrev pub invariant-choices::first_arm-loop-k : goal.invariant-choices::first_arm-loop-k
invariant-choices::first_arm-loop-k l =
    first_arm (expanded l.macros l.depth) (drop l.k l.arms) l.left ≡ first_arm (expanded l.macros l.depth) l.arms l.initial.left

-- in order what the rest gives with those so far, else those so far in front of what the rest gives
abbrev pub invariant-lets::bind-loop-item : goal.invariant-lets::bind-loop-item
invariant-lets::bind-loop-item l =
    (if l.ordered then let_in_order (expanded l.macros l.depth) l.of l.table (filter_map binding (drop l.item-index l.items)) l.left
    else in_front l.table (each (let_binding (expanded l.macros l.depth) l.of) (filter_map binding (drop l.item-index l.items)) l.left)) ≡ bind (expanded l.macros l.depth) l.of l.ordered l.items l.initial.left

abbrev pub invariant-own_calls::splice-loop-item : goal.invariant-own_calls::splice-loop-item
invariant-own_calls::splice-loop-item l =
    in_front l.forms (each_joined (spliced (expanded l.macros l.depth)) (drop l.item-index l.items) l.left) ≡ each_joined (spliced (expanded l.macros l.depth)) l.items l.initial.left

abbrev pub invariant-mapping::map-loop-k : goal.invariant-mapping::map-loop-k
invariant-mapping::map-loop-k l =
    in_front l.forms (results (expanded l.macros l.depth) l.of l.head l.args (range_with_len l.k (l.count - l.k)) l.left) ≡ in_front (beginning l.of) (results (expanded l.macros l.depth) l.of l.head l.args (range_with_len 0 l.count) l.initial.left)
