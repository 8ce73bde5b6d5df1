use Rattle.cg_ambig_pattern.proofs.search.+least.Given as goal

abbrev pub decreases-least : goal.decreases-least
decreases-least g l = l.free
