use Rattle.std.proofs.Common.{sym}
use Rattle.cg_code_mask.proofs.Depending.{in_word_at}
use Rattle.cg_code_mask.proofs.format.own_named.Goals as goal

pub near_bits-requires : goal.near_bits-requires
near_bits-requires c = in_word_at _ _ c.requires _ (sym c.in-Some.ensures)
