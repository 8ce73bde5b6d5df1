use Rattle.cg_desc_laws.proofs.UnrefusedJoined.{unrefused}
use Rattle.cg_desc_laws.proofs.unrefused.no_element_is_refused.Goals as goal

pub returns : goal.returns
returns c = unrefused c.args.machine.now c.requires.within c.requires.numbered c.requires.clear
