use Rattle.std.proofs.Common.{◌≡◌, ◌++◌, map, drop}
use Rattle.std.specs.List.{filter_map}
use Rattle.cg_desc_data.specs.Seen.{seen}
use Rattle.cg_desc_data.specs.Selecting.{member}
use Rattle.cg_desc_data.specs.Numbering.{multi_in, multi_names}
use Rattle.cg_desc_data.proofs.members.multi_names.Given as goal

-- the names so far, with those of what is left, are those of the whole
abbrev pub invariant-loop-element : goal.invariant-loop-element
invariant-loop-element l =
    l.names ++ map (λ form. form.name) (filter_map (member (seen l.selection) multi_in) (drop l.element-index l.element-items)) ≡ multi_names (seen l.selection)
