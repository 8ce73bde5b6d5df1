use Rattle.std.proofs.Common.{◌≡◌, drop, map}
use Rattle.cg_model.specs.Placed.{each_needed, needed_by}
use Rattle.cg_model_faults.specs.E314.{one_leads}
use Rattle.cg_desc_check_rtl.specs.Tables.{seen_rule, in_table}
use Rattle.cg_desc_check_rtl.proofs.rule.+expression_leads.Given as goal

-- what is left leads as the whole does
abbrev pub invariant-loop-item : goal.invariant-loop-item
invariant-loop-item l =
    one_leads (in_table l.table) (seen_rule l.target) (each_needed l.first (map (needed_by l.machine) (drop l.item-index l.item-items))) ≡ one_leads (in_table l.table) (seen_rule l.target) (needed_by l.machine l.rtl l.is_place)
