use Rattle.std.proofs.Common.{◌∙◌, arith}
use Rattle.cg_tree.proofs.Whole.{are_bytes, whole_front}
use Rattle.cg_tree.proofs.finding.front_of.Goals as goal

pub returns : goal.returns
returns c = c.whole_of.ensures ∙ whole_front c.args.bytes.now c.min.result (are_bytes c.args.bytes.now c.type_inv.bytes) (omega arith)
