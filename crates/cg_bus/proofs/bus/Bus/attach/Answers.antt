use Rattle.std.proofs.Common.{sym, ◌∙◌, ap, map}
use Rattle.cg_bus.specs.Slots.{is_free, range_of}
use Rattle.cg_bus.proofs.Standing.{apart_attached}
use Rattle.cg_bus.proofs.bus.Bus.attach.Goals as goal

pub invariant_of-self-clause-apart : goal.invariant_of-self-clause-apart
invariant_of-self-clause-apart g c =
    let before = c.args.self.now in
    let same = ap (λ r. is_free before.top before.ram r (map range_of before.slots.items)) c.range.ensures in
    apart_attached range_of before.top before.ram before.slots.items c.push.new.self.items c.args.slot _ c.push.ensures.items (sym same ∙ sym c.is_free.ensures ∙ c.if-not-is_free.false) before.apart
