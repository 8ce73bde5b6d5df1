use Rattle.std.proofs.Common.{drop}
use Rattle.cg_code.proofs.Ends.{Standing}
use Rattle.cg_code.proofs.matching.constants_stand.Given as goal

abbrev pub invariant-loop-part : goal.invariant-loop-part
invariant-loop-part l = Standing l.machine l.bytes l.parts (drop l.part-index l.parts)
