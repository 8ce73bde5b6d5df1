use Rattle.cg_ambig_pattern.proofs.ways.+gather.Given as goal

abbrev pub decreases-gather : goal.decreases-gather
decreases-gather g l = l.free
