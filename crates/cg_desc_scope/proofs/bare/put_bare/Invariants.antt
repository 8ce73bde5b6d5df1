use Rattle.std.proofs.Common.{◌≡◌, ◌++◌, drop}
use Rattle.std.specs.Prelude.{filter}
use Rattle.std.specs.List.{filter_map}
use Rattle.cg_desc_names.specs.Table.{known}
use Rattle.cg_desc_insns.specs.Choices.{slot_name}
use Rattle.cg_desc_scope.specs.Bare.{is_bare}
use Rattle.cg_desc_scope.proofs.bare.put_bare.Given as goal

-- what stands, with what is left, is the whole
abbrev pub invariant-loop-part : goal.invariant-loop-part
invariant-loop-part l =
    l.list ++ filter (is_bare (known l.names)) (filter_map slot_name (drop l.part-index l.parts)) ≡ l.initial.list ++ filter (is_bare (known l.names)) (filter_map slot_name l.parts)
