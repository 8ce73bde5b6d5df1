-- Parts in front of others.
use Rattle.std.proofs.Common.{◌≡◌, ℕ, List, [], ◌++◌, Option, Some, None, refl}
use Rattle.std.proofs.lemmas.Grind.{common_steps}
use Rattle.cg_desc_choices.specs.declared.written.NamedPart.{NamedPart}
use Rattle.cg_desc_choices.specs.declared.written.WrittenPart.{WrittenPart}
use Rattle.cg_desc_insns.specs.Parts.{part_before}

pub part_in_front : (item : ℕ) (p : Option NamedPart) (rest : List WrittenPart) → part_before item p rest ≡ part_before item p [] ++ rest
part_in_front item None rest = refl
part_in_front item (Some p) rest = refl

pub ruleset part_rules = (common_steps, part_in_front)
