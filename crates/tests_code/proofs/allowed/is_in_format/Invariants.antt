use Rattle.std.proofs.Common.{◌≡◌, drop}
use Rattle.cg_model.specs.Matching.{fields_of_parts}
use Rattle.cg_model.specs.Sound.{is_among}
use Rattle.tests_code.proofs.allowed.is_in_format.Given as goal

-- it stands among the fields of what is left just where it stands among those of all
abbrev pub invariant-loop-part : goal.invariant-loop-part
invariant-loop-part l = is_among l.number (fields_of_parts l.machine (drop l.part-index l.parts)) ≡ is_among l.number (fields_of_parts l.machine l.parts)
