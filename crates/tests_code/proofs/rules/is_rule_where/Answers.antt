use Rattle.std.proofs.Common.{sym, ◌∙◌}
use Rattle.tests_code.proofs.RuleLaws.{rule_there}
use Rattle.tests_code.proofs.rules.is_rule_where.Goals as goal

pub returns-in-Some : goal.returns-in-Some
returns-in-Some c allowed r is = rule_there _ _ _ _ (c.is_rule.ensures allowed) r (sym c.in-Some.is ∙ is)
