use Rattle.std.proofs.Common.{◌≡◌, ◌++◌, map, drop}
use Rattle.std.specs.List.{filter_map}
use Rattle.cg_desc_data.specs.Seen.{seen}
use Rattle.cg_desc_data.specs.Selecting.{member}
use Rattle.cg_desc_data.specs.Numbering.{field_in}
use Rattle.cg_desc_data.specs.Extents.{field_of, fields_of}
use Rattle.cg_desc_data.proofs.fields.fields_of.Given as goal

-- what is there so far, with what is left, is what the whole gives
abbrev pub invariant-loop-element : goal.invariant-loop-element
invariant-loop-element l =
    l.fields ++ map (field_of l.framing) (filter_map (member (seen l.selection) field_in) (drop l.element-index l.element-items)) ≡ fields_of (seen l.selection) l.framing
