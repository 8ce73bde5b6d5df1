use Rattle.std.specs.Option.{option_map}
use Rattle.cg_syntax_choose.proofs.TryingLemmas.{InsnsLeft}
use Rattle.cg_syntax_choose.proofs.trying.try_insns.Given as goal
use Rattle.cg_syntax_choose.specs.Trying.{trying}
use Rattle.cg_syntax_fit.specs.Misfits.{said}
use Rattle.cg_model_source.specs.Choosing.{insns_splitting}

-- what came so far, with what is left, is what comes of the whole
abbrev pub invariant-loop-k : goal.invariant-loop-k
invariant-loop-k l = InsnsLeft l.at.machine.now l.at.pc l.at.index.now.keywords l.at.text.now l.k l.first (trying l.at.machine.now l.at.pc (option_map (said l.at.machine.now) l.initial.first) (insns_splitting l.at.machine.now l.at.index.now.keywords l.at.text.now 0 l.at.machine.now.insns))
