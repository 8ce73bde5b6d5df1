use Rattle.std.proofs.Common.{◌≡◌, ◌++◌, drop}
use Rattle.std.specs.List.{filter_map}
use Rattle.cg_desc_data.specs.Seen.{seen}
use Rattle.cg_desc_data.specs.Selecting.{member}
use Rattle.cg_desc_scope.specs.Seen.{seen_described}
use Rattle.cg_desc_machine.specs.Macros.{macro_in, macro_of, macros_of}
use Rattle.cg_desc_machine.proofs.macros.macros_of.Given as goal

-- what stands, with what is left, is the whole
abbrev pub invariant-loop-element : goal.invariant-loop-element
invariant-loop-element l =
    l.list ++ filter_map (macro_of (seen_described l.described)) (filter_map (member (seen l.described.selection) macro_in) (drop l.element-index l.element-items)) ≡ macros_of (seen_described l.described)
