use Rattle.std.proofs.Common.{◌≡◌, ◌++◌, drop}
use Rattle.cg_desc_scope.specs.Seen.{seen_described}
use Rattle.cg_desc_machine.specs.Seen.{seen_items}
use Rattle.cg_desc_fault_name.specs.MacroNames.{items_judged}
use Rattle.cg_desc_fault_name.proofs.macros.put_items.Given as goal

-- what stands, with what is left, is the whole
abbrev pub invariant-loop-item : goal.invariant-loop-item
invariant-loop-item l =
    l.list ++ items_judged (seen_described l.described) l.slots (seen_items (drop l.item-index l.items)) ≡ l.initial.list ++ items_judged (seen_described l.described) l.slots (seen_items l.items)
