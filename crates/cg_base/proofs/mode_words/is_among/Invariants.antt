use Rattle.std.proofs.Common.{◌≡◌, drop, map}
use Rattle.cg_base.specs.Texts.{seen_text, is_among}
use Rattle.cg_base.proofs.mode_words.is_among.Given as goal

-- the text is among what is left where it is among all
abbrev pub invariant-loop-each : goal.invariant-loop-each
invariant-loop-each l = is_among (map seen_text (drop l.each-index l.texts)) l.text ≡ is_among (map seen_text l.texts) l.text
