use Rattle.std.proofs.Common.{◌≡◌, ◌++◌, drop}
use Rattle.std.specs.List.{filter_map}
use Rattle.cg_desc_names.specs.Table.{known}
use Rattle.cg_desc_insns.specs.Choices.{known_choice}
use Rattle.cg_desc_insns.proofs.choices.choices_among.Given as goal

-- those so far, with those of what is left, are those of the whole
abbrev pub invariant-loop-name : goal.invariant-loop-name
invariant-loop-name l = l.list ++ filter_map (known_choice (known l.names) l.elements) (drop l.name-index l.choices) ≡ filter_map (known_choice (known l.names) l.elements) l.choices
