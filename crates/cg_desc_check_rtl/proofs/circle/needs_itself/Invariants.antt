use Rattle.std.proofs.Common.{◌*◌}
use Rattle.cg_desc_check_rtl.specs.Tables.{seen_rule, Knows}
use Rattle.cg_desc_check_rtl.proofs.circle.needs_itself.Given as goal

-- the table has what leads to the rule in two steps for each round
abbrev pub invariant-loop-round : goal.invariant-loop-round
invariant-loop-round l = Knows l.machine (2 * l._round) (seen_rule l.rule) l.table
