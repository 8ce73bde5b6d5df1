use Rattle.std.proofs.Common.{rules}
use Rattle.cg_insn.specs.Syntax.{seen_piece}
use Rattle.cg_insn.proofs.Behind.{carried}
use Rattle.cg_insn.proofs.syntax.split.Goals as goal

pub loop-after-preserved : goal.loop-after-preserved
loop-after-preserved c = carried c.loop-after.pieces c.put.new.pieces (seen_piece c.in-Some-first_piece.piece) c.in-Some-first_piece.more c.in-Some.field-0-0.now c.in-Some.after.now c.loop-after.rest.now c.behind-rest.result.now c.args.text.now (search rules) (search rules) (search rules) (search rules) c.loop-after.invariant
