use Rattle.std.proofs.Common.{sym, ◌∙◌, arith}
use Rattle.tests_code.proofs.RuleLaws.{rule_of}
use Rattle.tests_code.proofs.rules.is_rule.Goals as goal

pub returns-then-bits : goal.returns-then-bits
returns-then-bits g c allowed = rule_of _ _ (g.A.Allows.allowed c.args.rule.now) _ c.in-Some.mode c.in-Some.ensures (omega (arith, c.if-bits.true, c.bits.ensures, c.bits-in-Some.ensures)) (sym c.all_allowed.ensures ∙ allowed)
