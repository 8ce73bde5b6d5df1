-- The last of what is there.
use Rattle.std.proofs.Common.{◌≡◌, Option, Some, None, refl}
use Rattle.std.specs.Option.{option_or}
use Rattle.std.proofs.lemmas.Grind.{common_steps}

pub or_none : {A : Type 0} (a : Option A) → option_or a None ≡ a
or_none None = refl
or_none (Some x) = refl

pub or_some : {A : Type 0} (a : Option A) (x : A) (b : Option A) → option_or (option_or a (Some x)) b ≡ option_or a (Some x)
or_some None x b = refl
or_some (Some y) x b = refl

pub ruleset last_rules = (common_steps, or_none, or_some)
