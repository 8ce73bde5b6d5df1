use Rattle.cg_syntax_choose.proofs.FrontLemmas.{TextFront}
use Rattle.cg_syntax_choose.proofs.front.text_front.Given as goal

-- with what is left it is the front of the whole
abbrev pub invariant-loop-byte : goal.invariant-loop-byte
invariant-loop-byte l = TextFront l.text l.byte-index l.front
