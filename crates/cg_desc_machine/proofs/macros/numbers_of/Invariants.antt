use Rattle.std.proofs.Common.{◌≡◌, ◌++◌, map, drop}
use Rattle.cg_desc_data.specs.Seen.{seen_numbering}
use Rattle.cg_desc_machine.specs.Instructions.{number_or_none}
use Rattle.cg_desc_machine.proofs.macros.numbers_of.Given as goal

-- what stands, with what is left, is the whole
abbrev pub invariant-loop-name : goal.invariant-loop-name
invariant-loop-name l =
    l.list ++ map (number_or_none (seen_numbering l.operands)) (drop l.name-index l.names) ≡ map (number_or_none (seen_numbering l.operands)) l.names
