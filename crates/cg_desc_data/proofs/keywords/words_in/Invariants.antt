use Rattle.std.proofs.Common.{◌≡◌, ◌++◌, map, drop}
use Rattle.cg_desc_data.specs.Hardware.{word_in}
use Rattle.cg_desc_data.proofs.keywords.words_in.Given as goal

-- what is there so far, with what is left, is what the whole gives
abbrev pub invariant-loop-item : goal.invariant-loop-item
invariant-loop-item l =
    l.words ++ map word_in (drop l.item-index l.items) ≡ map word_in l.items
