use Rattle.std.proofs.Common.{◌≡◌, drop}
use Rattle.cg_base.specs.Refusing.{first}
use Rattle.cg_model_faults.specs.E308.{long_texts}
use Rattle.cg_desc_check_element.proofs.texts.first_long_of_all.Given as goal

abbrev pub invariant-loop-text : goal.invariant-loop-text
invariant-loop-text l = first (long_texts (drop l.text-index l.texts)) ≡ first (long_texts l.texts)
