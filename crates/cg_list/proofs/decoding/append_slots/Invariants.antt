use Rattle.std.proofs.Common.{drop}
use Rattle.cg_list.proofs.Decoded.{Putting}
use Rattle.cg_list.proofs.decoding.append_slots.Given as goal

abbrev pub invariant-loop-part : goal.invariant-loop-part
invariant-loop-part l = Putting l.machine l.fn.text l.parts l.values l.text (drop l.part-index l.parts) l.rest
