use Rattle.std.proofs.Common.{◌≡◌, drop}
use Rattle.cg_desc_choices.specs.Choices.{spot_of}
use Rattle.cg_desc_choices.proofs.choosing.spot_of.Given as goal

-- the first of what is left is the first of the whole
abbrev pub invariant-loop-part : goal.invariant-loop-part
invariant-loop-part l = spot_of l.name (drop l.part-index l.parts) ≡ spot_of l.name l.parts
