use Rattle.cg_desc_data.specs.Seen.{seen}
use Rattle.cg_desc_laws_forms.proofs.Kept.{kept_law}
use Rattle.cg_desc_laws_forms.proofs.laws.sizes_are_kept.Goals as goal

pub returns : goal.returns
returns c = kept_law c.args.tops.now (seen c.args.selection.now) c.requires.clear c.requires.elements
