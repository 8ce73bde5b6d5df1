use Rattle.cg_ambig.proofs.Sounding.{has_patterns}
use Rattle.cg_ambig.proofs.Filling.{table_sound}
use Rattle.cg_ambig.proofs.ambiguity.first_clash.Goals as goal

pub fill-requires-clause-sound : goal.fill-requires-clause-sound
fill-requires-clause-sound c = has_patterns c.args.machine.now c.requires.sound

pub first_pair-requires : goal.first_pair-requires
first_pair-requires c = record { ready = c.requires.sound; sound = table_sound c.args.machine.now _ _ c.requires.sound c.len.ensures c.fill.ensures }
