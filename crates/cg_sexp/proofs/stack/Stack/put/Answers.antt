use Rattle.std.proofs.Common.{rules}
use Rattle.cg_sexp.proofs.Last.{put_last}
use Rattle.cg_sexp.proofs.stack.Stack.put.Goals as goal

pub returns-in-Some : goal.returns-in-Some
returns-in-Some c = search (rules, put_last)
