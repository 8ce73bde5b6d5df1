use Rattle.std.proofs.Common.{◌≡◌, ◌+◌, ◌*◌, drop, length}
use Rattle.std.specs.List.{flat_map}
use Rattle.cg_base.specs.Refusing.{first}
use Rattle.cg_rtl.specs.Functions.{seen_shape}
use Rattle.cg_rtl.specs.Shapes.{texts, items_faults, faults_to}
use Rattle.cg_rtl.proofs.faults.+judging.Given as goal

abbrev pub decreases-expression : goal.decreases-expression
decreases-expression l = 10 * l.walk.depth + 0

abbrev pub decreases-list : goal.decreases-list
decreases-list l = 10 * l.walk.depth + 9

abbrev pub decreases-call : goal.decreases-call
decreases-call l = 10 * l.walk.depth + 8

abbrev pub decreases-shaped : goal.decreases-shaped
decreases-shaped l = 10 * l.walk.depth + 7

abbrev pub decreases-items : goal.decreases-items
decreases-items l = 10 * l.walk.depth + 6

abbrev pub decreases-item_fault : goal.decreases-item_fault
decreases-item_fault l = 10 * l.walk.depth + 5

abbrev pub decreases-arm : goal.decreases-arm
decreases-arm l = 10 * l.walk.depth + 4

abbrev pub decreases-behind_head : goal.decreases-behind_head
decreases-behind_head l = 10 * l.walk.depth + 3

abbrev pub decreases-each : goal.decreases-each
decreases-each l = 10 * l.walk.depth + 2

-- what is left has the first fault of the whole
abbrev pub invariant-each-loop-form : goal.invariant-each-loop-form
invariant-each-loop-form l =
    first (texts l.walk.wanted (flat_map (faults_to l.walk.depth l.name) (drop l.form-index l.forms))) ≡ first (texts l.walk.wanted (flat_map (faults_to l.walk.depth l.name) l.forms))

-- the same of items, from the place of the next one on
abbrev pub invariant-items-loop-operand : goal.invariant-items-loop-operand
invariant-items-loop-operand l = record {
  place : l.k ≡ l.operand-index;
  rest : first (texts l.walk.wanted (items_faults (faults_to l.walk.depth) l.name (seen_shape l.shape) (length l.operands) l.operand-index (drop l.operand-index l.operands)))
      ≡ first (texts l.walk.wanted (items_faults (faults_to l.walk.depth) l.name (seen_shape l.shape) (length l.operands) 0 l.operands));
}
