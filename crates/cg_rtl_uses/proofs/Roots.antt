-- What stands in an expression that stands in no other.
use Rattle.std.proofs.lemmas.Grind.{common_steps}
use Rattle.cg_rtl_resolve.proofs.Places.{names_outside}
use Rattle.cg_rtl_uses.proofs.Paths.{places_root, under_root}

pub ruleset root_rules = (common_steps, names_outside, places_root, under_root)
