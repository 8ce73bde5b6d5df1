use Rattle.cg_list.proofs.bundle.+bundle_from.Given as goal

abbrev pub decreases-bundle_from : goal.decreases-bundle_from
decreases-bundle_from l = l.most
