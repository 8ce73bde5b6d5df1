use Rattle.cg_code_mask.proofs.Turning.{fits_bytes, small_number}
use Rattle.cg_code_mask.proofs.mask.turned_word.Goals as goal

pub put_number-requires-clause-fits : goal.put_number-requires-clause-fits
put_number-requires-clause-fits c = fits_bytes c.args.len c.args.word c.requires.fits

pub returns-clause-small : goal.returns-clause-small
returns-clause-small c = small_number c.args.len c.number_at.result c.number_at.ensures.fits
