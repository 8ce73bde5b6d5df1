use Rattle.cg_code.proofs.Settings.{Inserting}
use Rattle.cg_code.proofs.putting.put_subs.Given as goal

abbrev pub invariant-loop-n : goal.invariant-loop-n
invariant-loop-n l = Inserting l.machine l.pc l.value l.multi.subs l.multi.insert l.n l.initial.bytes l.bytes
