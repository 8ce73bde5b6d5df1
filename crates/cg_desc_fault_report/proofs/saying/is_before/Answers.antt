use Rattle.std.proofs.Common.{rules, sym, ◌∙◌}
use Rattle.cg_desc_fault_report.proofs.Before.{ended_first}
use Rattle.cg_desc_fault_report.proofs.saying.is_before.Goals as goal

-- the one place ends where the other goes on
pub returns-then-k-one : goal.returns-then-k-one
returns-then-k-one c = sym (ended_first c.loop-k.k c.args.one.now c.args.other.now (search rules) (search rules)) ∙ c.loop-k.invariant
