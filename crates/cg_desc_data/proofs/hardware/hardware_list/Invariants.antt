use Rattle.std.proofs.Common.{◌≡◌, ◌++◌, map, drop}
use Rattle.std.specs.List.{filter_map}
use Rattle.cg_desc_data.specs.Seen.{seen}
use Rattle.cg_desc_data.specs.Selecting.{member}
use Rattle.cg_desc_data.specs.Numbering.{hardware_in}
use Rattle.cg_desc_data.specs.Hardware.{hardware_of, hardware_list}
use Rattle.cg_desc_data.proofs.hardware.hardware_list.Given as goal

-- what is there so far, with what is left, is what the whole gives
abbrev pub invariant-loop-element : goal.invariant-loop-element
invariant-loop-element l =
    l.list ++ map (hardware_of (seen l.selection) l.framing) (filter_map (member (seen l.selection) hardware_in) (drop l.element-index l.element-items)) ≡ hardware_list (seen l.selection) l.framing
