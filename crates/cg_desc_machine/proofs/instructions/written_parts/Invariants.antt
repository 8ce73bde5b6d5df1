use Rattle.std.proofs.Common.{◌≡◌, ◌++◌, map, drop}
use Rattle.cg_desc_scope.specs.Seen.{seen_described}
use Rattle.cg_desc_machine.specs.Instructions.{part_in}
use Rattle.cg_desc_machine.proofs.instructions.written_parts.Given as goal

-- what stands, with what is left, is the whole
abbrev pub invariant-loop-part : goal.invariant-loop-part
invariant-loop-part l =
    l.list ++ map (part_in (seen_described l.described)) (drop l.part-index l.parts) ≡ map (part_in (seen_described l.described)) l.parts
