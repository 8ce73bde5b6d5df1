use Rattle.std.proofs.Common.{◌≡◌, Some, arith}
use Rattle.std.proofs.lemmas.Grind.{common_steps}
use Rattle.cg_model.specs.Placed.{rule_named}
use Rattle.cg_modes_leaf.specs.Delaying.{seen_rule}
use Rattle.cg_modes_leaf.proofs.Sizes.{rule_left}
use Rattle.cg_modes_leaf.proofs.search.+stepping.Goals as goal

pub rule_delays-delays_by-requires : goal.rule_delays-delays_by-requires
rule_delays-delays_by-requires t c =
    let named : rule_named c.args.machine.now (seen_rule c.args.rule) ≡ Some c.in-Some.rtl.now = grind (arith, common_steps) in
    let h = rule_left c.args.machine.now c.args.steps (seen_rule c.args.rule) c.in-Some.rtl.now c.if-steps-eq0.false named in
    (omega (arith, h, c.decreases), tt)
