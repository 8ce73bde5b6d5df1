use Rattle.std.proofs.Common.{◌≡◌, ◌++◌, map, drop}
use Rattle.std.specs.List.{filter_map}
use Rattle.cg_desc_data.specs.Seen.{seen, seen_numbers}
use Rattle.cg_desc_data.specs.Selecting.{member}
use Rattle.cg_desc_data.specs.Numbering.{multi_in}
use Rattle.cg_desc_data.specs.Multis.{multi_of, multis_of}
use Rattle.cg_desc_data.proofs.multis.multis_of.Given as goal

-- what is there so far, with what is left, is what the whole gives
abbrev pub invariant-loop-element : goal.invariant-loop-element
invariant-loop-element l =
    l.multis ++ map (multi_of l.framing (seen_numbers l.numbers)) (filter_map (member (seen l.selection) multi_in) (drop l.element-index l.element-items)) ≡ multis_of (seen l.selection) l.framing (seen_numbers l.numbers)
