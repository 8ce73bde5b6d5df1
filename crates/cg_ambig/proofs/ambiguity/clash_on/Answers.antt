use Rattle.cg_code_mask.specs.View.{bytes_of_whole}
use Rattle.cg_ambig.proofs.Filling.{clash_on_bytes}
use Rattle.cg_ambig.proofs.ambiguity.clash_on.Goals as goal

pub returns : goal.returns
unfolding bytes_of_whole
returns c = clash_on_bytes c.args.machine.now c.args.first c.args.second c.args.number c.max-len.result c.length_of.result c.length_of-2.result c.to_be_bytes.result
    c.requires.sound c.ranges.number.fits c.requires.found c.length_of.ensures c.length_of-2.ensures c.max-len.ensures c.to_be_bytes.ensures
