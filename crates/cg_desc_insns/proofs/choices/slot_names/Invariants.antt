use Rattle.std.proofs.Common.{◌≡◌, ◌++◌, drop}
use Rattle.std.specs.List.{filter_map}
use Rattle.cg_desc_insns.specs.Choices.{slot_name, distinct_behind, distinct}
use Rattle.cg_desc_insns.proofs.choices.slot_names.Given as goal

-- those so far, with the others of what is left, are those of the whole
abbrev pub invariant-loop-part : goal.invariant-loop-part
invariant-loop-part l = l.list ++ distinct_behind l.list (filter_map slot_name (drop l.part-index l.parts)) ≡ distinct (filter_map slot_name l.parts)
