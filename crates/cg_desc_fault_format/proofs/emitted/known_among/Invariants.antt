use Rattle.std.proofs.Common.{◌≡◌, ◌++◌, drop}
use Rattle.std.specs.Prelude.{filter}
use Rattle.cg_desc_scope.specs.Seen.{seen_described}
use Rattle.cg_desc_machine.specs.Seen.{seen_items}
use Rattle.cg_desc_fault_format.specs.E313.{is_known}
use Rattle.cg_desc_fault_format.proofs.emitted.known_among.Given as goal

-- what stands, with what is left, is the whole
abbrev pub invariant-loop-item : goal.invariant-loop-item
invariant-loop-item l =
    seen_items l.list.items ++ filter (is_known (seen_described l.described)) (seen_items (drop l.item-index l.items)) ≡ filter (is_known (seen_described l.described)) (seen_items l.items)
