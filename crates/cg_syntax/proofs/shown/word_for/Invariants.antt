use Rattle.std.proofs.Common.{◌≡◌, drop}
use Rattle.cg_model_source.specs.Listing.{word_for}
use Rattle.cg_syntax.proofs.shown.word_for.Given as goal

-- what is left has the first of the whole
abbrev pub invariant-loop-each : goal.invariant-loop-each
invariant-loop-each l = word_for l.bits (drop l.each-index l.words) l.value ≡ word_for l.bits l.words l.value
