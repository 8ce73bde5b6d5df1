use Rattle.std.proofs.Common.{◌≡◌, drop}
use Rattle.cg_base.specs.Refusing.{first}
use Rattle.cg_model_faults.specs.E308.{long_words}
use Rattle.cg_desc_check_element.proofs.texts.first_long_of_words.Given as goal

abbrev pub invariant-loop-named : goal.invariant-loop-named
invariant-loop-named l = first (long_words (drop l.named-index l.words)) ≡ first (long_words l.words)
