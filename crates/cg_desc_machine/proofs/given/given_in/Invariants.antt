use Rattle.std.proofs.Common.{◌≡◌, drop}
use Rattle.cg_desc_scope.specs.Seen.{seen_described}
use Rattle.cg_desc_machine.specs.Macros.{given_in}
use Rattle.cg_desc_machine.specs.Seen.{seen_items}
use Rattle.cg_desc_machine.proofs.given.given_in.Given as goal

-- what is left gives what the whole gives
abbrev pub invariant-loop-item : goal.invariant-loop-item
invariant-loop-item l =
    given_in (seen_described l.described) l.slots (seen_items (drop l.item-index l.items)) l.operand ≡ given_in (seen_described l.described) l.slots (seen_items l.items) l.operand
