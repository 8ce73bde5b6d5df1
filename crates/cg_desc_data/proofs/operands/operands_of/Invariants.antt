use Rattle.std.proofs.Common.{◌≡◌, ◌++◌, map, drop}
use Rattle.std.specs.List.{filter_map}
use Rattle.cg_desc_data.specs.Seen.{seen}
use Rattle.cg_desc_data.specs.Selecting.{member}
use Rattle.cg_desc_data.specs.Seen.{seen_numbers}
use Rattle.cg_desc_data.specs.Numbering.{operand_in}
use Rattle.cg_desc_data.specs.Operands.{operand_of, operands_of}
use Rattle.cg_desc_data.proofs.operands.operands_of.Given as goal

-- what is there so far, with what is left, is what the whole gives
abbrev pub invariant-loop-element : goal.invariant-loop-element
invariant-loop-element l =
    l.operands ++ map (operand_of (seen_numbers l.numbers)) (filter_map (member (seen l.selection) operand_in) (drop l.element-index l.element-items)) ≡ operands_of (seen l.selection) (seen_numbers l.numbers)
