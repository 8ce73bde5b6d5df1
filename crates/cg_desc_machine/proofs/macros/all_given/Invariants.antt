use Rattle.std.proofs.Common.{◌≡◌, ◌++◌, map, drop}
use Rattle.cg_desc_scope.specs.Seen.{seen_described}
use Rattle.cg_desc_machine.specs.Macros.{given_or_zero}
use Rattle.cg_desc_machine.specs.Seen.{seen_items}
use Rattle.cg_desc_machine.proofs.macros.all_given.Given as goal

-- what stands, with what is left, is the whole
abbrev pub invariant-loop-operand : goal.invariant-loop-operand
invariant-loop-operand l =
    l.list ++ map (given_or_zero (seen_described l.described) l.slots (seen_items l.items)) (drop l.operand-index l.operands) ≡ map (given_or_zero (seen_described l.described) l.slots (seen_items l.items)) l.operands
