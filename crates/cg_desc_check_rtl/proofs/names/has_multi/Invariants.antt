use Rattle.std.proofs.Common.{◌≡◌, drop}
use Rattle.cg_model_faults.specs.Finding.{stands_in}
use Rattle.cg_model_faults.specs.E306.{format_multis}
use Rattle.cg_desc_check_rtl.proofs.names.has_multi.Given as goal

-- it stands in what is left as in the whole
abbrev pub invariant-loop-part : goal.invariant-loop-part
invariant-loop-part l = stands_in (format_multis l.machine (drop l.part-index l.parts)) l.k ≡ stands_in (format_multis l.machine l.parts) l.k
