use Rattle.std.proofs.Common.{◌≡◌, drop}
use Rattle.cg_model_faults.specs.Finding.{stands_in}
use Rattle.cg_model.specs.Matching.{fields_of_parts}
use Rattle.cg_desc_check_rtl.proofs.names.covers_field.Given as goal

-- it stands in what is left as in the whole
abbrev pub invariant-loop-part : goal.invariant-loop-part
invariant-loop-part l = stands_in (fields_of_parts l.machine (drop l.part-index l.parts)) l.k ≡ stands_in (fields_of_parts l.machine l.parts) l.k
