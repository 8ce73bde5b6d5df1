use Rattle.std.proofs.Common.{refl, arith}
use Rattle.tests_code.proofs.FieldLaws.{inserts_step}
use Rattle.tests_code.proofs.sound.are_inserts.Goals as goal

pub loop-k-preserved : goal.loop-k-preserved
loop-k-preserved c rest = c.loop-k.invariant (inserts_step c.args.machine.now c.args.own c.args.subs.now c.args.rules.now c.loop-k.k _ _ c.index-rules-k.result c.loop-k-test.true (omega (arith, c.loop-k-test.true, c.if-subs-rules.false)) c.index-rules-k.is (c.if-not-is_insert.ensures refl) rest)
