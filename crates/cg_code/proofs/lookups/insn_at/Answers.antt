use Rattle.std.proofs.Common.{◌≡◌, get_or, sym, ap, ◌∙◌, subst}
use Rattle.cg_model.specs.Sound.{SoundInsn}
use Rattle.cg_code.proofs.Matched.{sound_insn}
use Rattle.cg_code.proofs.lookups.insn_at.Goals as goal

pub returns-clause-sound : goal.returns-clause-sound
returns-clause-sound c =
    let same : c.index-as_slice-i.result ≡ get_or c.args.machine.now.insns c.args.i c.index-as_slice-i.result = c.index-as_slice-i.is ∙ ap (λ xs. get_or xs c.args.i c.index-as_slice-i.result) c.as_slice.ensures in
    subst (SoundInsn c.args.machine.now) (sym same) (sound_insn c.args.machine.now c.args.i c.index-as_slice-i.result c.requires.sound c.requires.within)
