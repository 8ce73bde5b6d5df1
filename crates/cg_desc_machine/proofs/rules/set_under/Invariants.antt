use Rattle.std.proofs.Common.{◌≡◌, drop}
use Rattle.cg_rtl_resolve.specs.Names.{found_under}
use Rattle.cg_desc_machine.specs.Seen.{seen_sets}
use Rattle.cg_desc_machine.proofs.rules.set_under.Given as goal

-- what is left gives what the whole gives
abbrev pub invariant-loop-set : goal.invariant-loop-set
invariant-loop-set l =
    found_under l.name (seen_sets (drop l.set-index l.sets)) ≡ found_under l.name (seen_sets l.sets)
