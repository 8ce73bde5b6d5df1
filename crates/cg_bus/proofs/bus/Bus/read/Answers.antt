use Rattle.std.proofs.Common.{sym, refl}
use Rattle.std.proofs.lemmas.Option.{slice_get_read}
use Rattle.std.proofs.lemmas.List.Quantifiers.{position-Some}
use Rattle.cg_bus.specs.Slots.{covers, range_of}
use Rattle.cg_bus.proofs.Reaching.{asks_made}
use Rattle.cg_bus.proofs.bus.Bus.read.Goals as goal

pub read_slot-requires-clause-inside : goal.read_slot-requires-clause-inside
read_slot-requires-clause-inside g c =
    let slots = c.args.self.now.slots.items in
    let h = position-Some (λ s. covers c.args.self.now.top c.args.address c.args.width (range_of s)) slots c.in-Some.k c.index_mut.result.now (sym c.in-Some.ensures.place) in
    rw (← c.index_mut.ensures.value) at h.1

pub returns-in-Some-clause-asks : goal.returns-in-Some-clause-asks
returns-in-Some-clause-asks g c =
    let h = c.in-Some.ensures in let r = c.read_slot.ensures in
    asks_made _ _ _ _ _ c.in-Some.k _ c.args.self.now.slots.items c.index_mut.result.now c.read_slot.new.slot _ (sym h.place) (slice_get_read _ _ _ _ refl h.within c.index_mut.ensures.value) r.stays r.asked r.fault
