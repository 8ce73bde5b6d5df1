use Rattle.std.proofs.Common.{sym, ◌∙◌}
use Rattle.cg_list.proofs.Decoded.{found_matches, matching_within}
use Rattle.cg_list.proofs.decoding.decode.Goals as goal

pub line_at-requires-clause-within : goal.line_at-requires-clause-within
line_at-requires-clause-within c =
    matching_within c.args.machine.now c.args.bytes.now c.in-Some.k (found_matches c.args.tree.now c.args.machine.now c.args.bytes.now c.in-Some.k (sym c.find.ensures.first ∙ c.in-Some.is))
