use Rattle.std.proofs.Common.{◌≡◌, length, get_or, refl, ap, ◌∙◌}
use Rattle.std.proofs.lemmas.Option.{slice_get_read}
use Rattle.cg_syntax_fit.proofs.Values.{value_there}
use Rattle.cg_syntax_fit.proofs.value.operand_there.Goals as goal

pub returns-clause-sound : goal.returns-clause-sound
returns-clause-sound c =
    let it = c.index-as_slice-k.result in
    let is : it ≡ get_or c.args.machine.now.operands c.args.k it = c.index-as_slice-k.is ∙ ap (λ xs. get_or xs c.args.k it) c.as_slice.ensures in
    value_there c.args.machine.now c.args.k it c.requires.sound (slice_get_read c.args.machine.now.operands (length c.args.machine.now.operands) c.args.k it refl c.requires.within is)
