use Rattle.std.proofs.Common.{◌≡◌, drop}
use Rattle.cg_desc_choices.specs.Putting.{stand_for}
use Rattle.cg_desc_choices.proofs.stand.stand_for.Given as goal

-- what is left stands for the name as the whole does
abbrev pub invariant-loop-stand : goal.invariant-loop-stand
invariant-loop-stand l = stand_for l.name (drop l.stand-index l.stands) ≡ stand_for l.name l.stands
