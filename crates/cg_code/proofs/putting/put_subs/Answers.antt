use Rattle.std.proofs.Common.{◌<◌, subst, sym}
use Rattle.cg_code.proofs.Settings.{as_many, inserting_more}
use Rattle.cg_code.proofs.putting.put_subs.Goals as goal

pub put_inserted-requires-clause-rule : goal.put_inserted-requires-clause-rule
put_inserted-requires-clause-rule c = subst (λ n. c.loop-n.n < n) (sym (as_many _ _ _ _ c.requires.multi.insert)) (subst (λ n. c.loop-n.n < n) c.len-n-end.ensures c.loop-n-test.true)

pub loop-n-preserved : goal.loop-n-preserved
loop-n-preserved c = inserting_more _ _ _ _ _ _ _ _ _ (as_many _ _ _ _ c.requires.multi.insert) (subst (λ n. c.loop-n.n < n) c.len-n-end.ensures c.loop-n-test.true) c.loop-n.invariant c.put_inserted.ensures
