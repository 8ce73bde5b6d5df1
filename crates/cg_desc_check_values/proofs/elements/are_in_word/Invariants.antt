use Rattle.std.proofs.Common.{◌≡◌, drop}
use Rattle.std.specs.List.{list_all}
use Rattle.cg_base.specs.Characters.{is_in_word}
use Rattle.cg_desc_check_values.proofs.elements.are_in_word.Given as goal

abbrev pub invariant-loop-byte : goal.invariant-loop-byte
invariant-loop-byte l = list_all is_in_word (drop l.byte-index l.bytes) ≡ list_all is_in_word l.bytes
