use Rattle.std.specs.Option.{option_map}
use Rattle.std.proofs.Common.{ap}
use Rattle.cg_base.specs.Texts.{seen_text}
use Rattle.cg_asm_labels.proofs.LabelLemmas.{label_listed, label_known}
use Rattle.cg_asm_labels.proofs.labels.Labels.define.Goals as goal

pub invariant_of-self-in_ok-insert : goal.invariant_of-self-in_ok-insert
invariant_of-self-in_ok-insert c =
    label_known c.self.inside.addresses c.insert.new.self c.args.self.now (option_map seen_text c.args.label) c.in-Some.name.now c.in_ok-of.field-0 c.args.address c.self.invariant c.self.view_is c.requires (ap (option_map seen_text) c.in-Some.is) c.in_ok-of.ensures
    c.in_ok-insert.ensures.entries c.in_ok-insert.ensures.updates

pub returns-in_ok-insert : goal.returns-in_ok-insert
returns-in_ok-insert c =
    label_listed c.self.inside.addresses c.insert.new.self c.args.self.now (option_map seen_text c.args.label) c.in-Some.name.now c.in_ok-of.field-0 c.args.address c.self.invariant c.self.view_is c.requires (ap (option_map seen_text) c.in-Some.is) c.in_ok-of.ensures
    c.in_ok-insert.ensures.entries
