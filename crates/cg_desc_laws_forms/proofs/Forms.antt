-- What stands in forms without fault.
use Rattle.cg_desc_laws_forms.specs.Forms.{AreForms}
use Rattle.cg_desc_laws_forms.proofs.Bundles.{bundles_law}
use Rattle.cg_desc_laws_forms.proofs.Codes.{codes_law, multis_law}
use Rattle.cg_desc_laws_forms.proofs.FormHardware.{hardware_law}
use Rattle.cg_desc_laws_forms.proofs.Insns.{insns_law, macros_law}
use Rattle.cg_desc_laws_forms.proofs.Operands.{choices_law}

pub forms_law : AreForms
forms_law = record { bundles = bundles_law; codes = codes_law; multis = multis_law; hardware = hardware_law; insns = insns_law; macros = macros_law; choices = choices_law }

pub ruleset forms = (forms_law)
