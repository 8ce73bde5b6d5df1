use Rattle.std.proofs.Common.{◌≡◌, ◌++◌, map, drop}
use Rattle.cg_desc_scope.specs.Seen.{seen_described}
use Rattle.cg_desc_machine.specs.Instructions.{slot_part}
use Rattle.cg_desc_machine.proofs.instructions.put_slots.Given as goal

-- what stands, with what is left, is the whole
abbrev pub invariant-loop-name : goal.invariant-loop-name
invariant-loop-name l =
    l.list ++ map (slot_part (seen_described l.described)) (drop l.name-index l.names) ≡ l.initial.list ++ map (slot_part (seen_described l.described)) l.names
