use Rattle.std.proofs.Common.{◌≡◌, drop}
use Rattle.std.specs.List.{list_all}
use Rattle.cg_model.specs.Formed.{is_word}
use Rattle.cg_desc_check_values.proofs.elements.are_all_words.Given as goal

abbrev pub invariant-loop-named : goal.invariant-loop-named
invariant-loop-named l = list_all is_word (drop l.named-index l.words) ≡ list_all is_word l.words
