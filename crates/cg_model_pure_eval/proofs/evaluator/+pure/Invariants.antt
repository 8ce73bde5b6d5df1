use Rattle.std.proofs.Common.{◌≡◌, ◌*◌, ◌^◌, ◌<◌, true, drop}
use Rattle.cg_base.specs.Modes.{bits_of}
use Rattle.cg_model_pure_eval.specs.Choosing.{first_held, first_named, at_typed}
use Rattle.cg_model_pure_eval.specs.Joining.{parts_typed, held_typed}
use Rattle.cg_model_pure_eval.specs.Seen.{each_had}
use Rattle.cg_model_pure_eval.proofs.evaluator.+pure.Given as goal

-- what holds so far gives, with what is left, what all give
abbrev pub invariant-holds-loop-item : goal.invariant-holds-loop-item
invariant-holds-loop-item g l =
    (held_typed l.machine (g.A.Around.seen l.around l.machine).around l.every l.held (drop l.item-index l.items) ≡ held_typed l.machine (g.A.Around.seen l.around l.machine).around l.every l.every l.items)
    × (each_had l.machine (g.A.Around.seen l.around l.machine) (drop l.item-index l.items) ≡ true)

-- the parts so far stay below their bits
abbrev pub invariant-joined-loop-item : goal.invariant-joined-loop-item
invariant-joined-loop-item g l =
    (parts_typed l.machine (g.A.Around.seen l.around l.machine).around l.to l.mode l.value (drop l.item-index l.items) ≡ parts_typed l.machine (g.A.Around.seen l.around l.machine).around l.to l.mode 0 l.items)
    × (each_had l.machine (g.A.Around.seen l.around l.machine) (drop l.item-index l.items) ≡ true)
    × (l.value < 2 ^ (bits_of l.mode * l.item-index))

abbrev pub invariant-first_held-loop-arm : goal.invariant-first_held-loop-arm
invariant-first_held-loop-arm g l =
    (first_held l.machine (g.A.Around.seen l.around l.machine).around l.mode l.want (drop l.arm-index l.arms) ≡ first_held l.machine (g.A.Around.seen l.around l.machine).around l.mode l.want l.arms)
    × (each_had l.machine (g.A.Around.seen l.around l.machine) (drop l.arm-index l.arms) ≡ true)

abbrev pub invariant-first_named-loop-arm : goal.invariant-first_named-loop-arm
invariant-first_named-loop-arm g l =
    (first_named l.machine (g.A.Around.seen l.around l.machine).around (bits_of l.a.mode) l.a.value l.mode l.want (drop l.arm-index l.arms)
    ≡ first_named l.machine (g.A.Around.seen l.around l.machine).around (bits_of l.a.mode) l.a.value l.mode l.want l.arms)
    × (each_had l.machine (g.A.Around.seen l.around l.machine) (drop l.arm-index l.arms) ≡ true)

abbrev pub invariant-at-loop-item : goal.invariant-at-loop-item
invariant-at-loop-item g l =
    (at_typed l.machine (g.A.Around.seen l.around l.machine).around l.want l.left (drop l.item-index l.items) ≡ at_typed l.machine (g.A.Around.seen l.around l.machine).around l.want l.number l.items)
    × (each_had l.machine (g.A.Around.seen l.around l.machine) (drop l.item-index l.items) ≡ true)
