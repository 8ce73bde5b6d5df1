use Rattle.std.proofs.Common.{◌≡◌, ◌++◌, drop, map}
use Rattle.cg_desc_choices.specs.Choices.{part_within}
use Rattle.cg_desc_choices.proofs.choosing.put_parts.Given as goal

-- what stands, with what is left, is the whole
abbrev pub invariant-loop-part : goal.invariant-loop-part
invariant-loop-part l = l.list ++ map (part_within l.operand) (drop l.part-index l.parts) ≡ l.initial.list ++ map (part_within l.operand) l.parts
