use Rattle.std.proofs.Common.{◌≡◌, [], drop}
use Rattle.std.specs.List.{flat_map}
use Rattle.cg_model_source.specs.Spelling.{keywords}
use Rattle.cg_model.specs.Words.{words_of}
use Rattle.cg_syntax_spelling.specs.Lowered.{put_words}
use Rattle.cg_syntax_spelling.proofs.keyword.all_words.Given as goal

-- with those of the hardware that is left they are all
abbrev pub invariant-loop-hardware : goal.invariant-loop-hardware
invariant-loop-hardware l = put_words l.words.keys (flat_map words_of (drop l.hardware-index l.machine.hardware)) ≡ put_words [] (keywords l.machine)
