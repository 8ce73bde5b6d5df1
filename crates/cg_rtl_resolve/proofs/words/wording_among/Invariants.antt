use Rattle.std.proofs.Common.{◌≡◌, drop, map}
use Rattle.cg_rtl_resolve.specs.Names.{found_under}
use Rattle.cg_rtl_resolve.specs.Read.{seen_word}
use Rattle.cg_rtl_resolve.proofs.words.wording_among.Given as goal

-- what is left has the mode that all have
abbrev pub invariant-loop-each : goal.invariant-loop-each
invariant-loop-each l = found_under l.word (map seen_word (drop l.each-index l.words)) ≡ found_under l.word (map seen_word l.words)
