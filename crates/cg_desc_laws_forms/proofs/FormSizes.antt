-- The sizes that forms without fault say.
use Rattle.cg_desc_laws_forms.specs.FormSizes.{AreSizes}
use Rattle.cg_desc_laws_forms.proofs.Frames.{word_law, size_law}
use Rattle.cg_desc_laws_forms.proofs.FormFields.{place_law}

pub sizes_law : AreSizes
sizes_law = record { words = word_law; sizes = size_law; places = place_law }

pub ruleset sizes = (sizes_law)
