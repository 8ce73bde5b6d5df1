use Rattle.std.proofs.Common.{ap, ◌∙◌}
use Rattle.cg_model.specs.Clashing.{decoded_to}
use Rattle.cg_model_source.specs.Imaging.{image}
use Rattle.cg_model_source.specs.Listing.{listing}
use Rattle.cg_model_source.specs.Sourcing.{only_set}
use Rattle.cg_top.proofs.LineLemmas.{lines_whole}
use Rattle.cg_top.proofs.laws.printed_listings_give_back.Goals as goal

pub returns : goal.returns
returns c it bytes are few within =
    let m = c.args.machine.now in
    ap (image (only_set m) it.base) (lines_whole (listing m (decoded_to m) it.base bytes)) ∙ c.listings_give_back.ensures (decoded_to m) it.base bytes are few within
