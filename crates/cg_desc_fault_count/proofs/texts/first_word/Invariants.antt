use Rattle.std.proofs.Common.{◌≡◌, map, drop}
use Rattle.cg_base.specs.Refusing.{first}
use Rattle.cg_model_faults.specs.E308.{long_texts}
use Rattle.cg_desc_fault_count.specs.E308.{word_text}
use Rattle.cg_desc_fault_count.proofs.texts.first_word.Given as goal

-- the first of what is left is the first of the whole
abbrev pub invariant-loop-word : goal.invariant-loop-word
invariant-loop-word l =
    first (long_texts (map word_text (drop l.word-index l.named))) ≡ first (long_texts (map word_text l.named))
