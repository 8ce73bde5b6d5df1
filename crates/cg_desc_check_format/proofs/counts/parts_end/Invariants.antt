use Rattle.std.proofs.Common.{◌≡◌, max, drop}
use Rattle.cg_model.specs.Matching.{last_end, fields_of_parts}
use Rattle.cg_desc_check_format.proofs.counts.parts_end.Given as goal

-- the end so far, with what is left, is the end of all
abbrev pub invariant-loop-part : goal.invariant-loop-part
invariant-loop-part l = max l.end (last_end l.machine (fields_of_parts l.machine (drop l.part-index l.parts))) ≡ last_end l.machine (fields_of_parts l.machine l.parts)
