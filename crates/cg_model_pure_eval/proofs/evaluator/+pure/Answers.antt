use Rattle.std.proofs.Common.{◌<◌, ◌^◌, subst}
use Rattle.cg_base.specs.Modes.{bits_of}
use Rattle.cg_model_pure_eval.proofs.Rooms.{room_for}
use Rattle.cg_model_pure_eval.proofs.evaluator.+pure.Goals as goal

pub joined-behind-value-requires : goal.joined-behind-value-requires
joined-behind-value-requires g t c =
    let fits = subst (λ k. c.in_ok-a.a.value < 2 ^ bits_of k) c.in_ok-a.ensures.mode c.in_ok-a.ensures.fits in
    record { room = room_for _ _ _ _ _ _ c.loop-item.invariant.2 fits c.loop-item-test.true c.requires.room }
